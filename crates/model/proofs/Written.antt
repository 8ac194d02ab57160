-- What an increment writes, as words replaced at offsets of the words lent.
use mathlib.Core.Path.{◌≡◌, refl, sym, ap, ap₂, ◌∙◌, subst}
use mathlib.Core.Bool.{true, false}
use mathlib.Core.List.{List, [], ◌∷◌, ◌++◌, append_assoc}
use Prim.Native.Nat.{ℕ, suc, ◌+◌, ◌*◌, ◌^◌, ◌<◌}
use lib.ListN.{length, get_or, set, take, drop, length-set, length-replicate}
use lib.Seq.{paste, take-length}
use Rattle.model.specs.Lists.{splice, by_mark, choose}
use Rattle.model.specs.Packed.{join_fields}
use Rattle.model.specs.Shapes.{bucket_size}
use Rattle.model.specs.Walls.{Header, Bucket, Full, Wall, buckets_in, bucket_words, full_words, word_at, full_fields, flatten, parse, empty_full, empty_bucket, with_totals, wall}
use Rattle.model.specs.Sound.{flag, full_number, bucket_at, own_at, full_for}
use Rattle.model.specs.Calls.{no_room, step, holding, overflowed, move_in}
use Rattle.model.proofs.Tools.{each_set, each_at}
use Rattle.model.proofs.Headers.{Good}
use Rattle.model.proofs.Parsing.{Shaped, Lengths, shaped_parse, flatten-parse, flatten-bucket, flatten-full, offset_fulls}
use Rattle.model.proofs.OwnSteps.{hold_lengths, over_lengths, empty_lengths}
use Rattle.model.proofs.Steps.{length_moved}

-- new totals are two words
pub totals_words : (h : Header) (t u : ℕ) (bs : List Bucket) (fs : List Full) → flatten (wall (with_totals h t u) bs fs) ≡ set (set (flatten (wall h bs fs)) 2 t) 3 (join_fields full_fields (h.full ∷ u ∷ h.spread ∷ []))
unfolding flatten
totals_words h t u bs fs = refl

-- words in place of as many, as a copy loop leaves them
pub splice-paste : (ws : List ℕ) (o : ℕ) (c : List ℕ) → splice ws o c ≡ paste ws o c (length c)
splice-paste ws o c = sym (append_assoc (take o ws) (take (length c) c) (drop (o + length c) ws) ∙ ap (λ (x : List ℕ). take o ws ++ (x ++ drop (o + length c) ws)) (take-length c))

module _ (ws : List ℕ) (g : Good ws) (l : word_at ws 0 < 2 ^ 64) where
  abbrev v : Wall
  v = parse ws

  abbrev h : Header
  h = (parse ws).header

  -- where bucket i stands, and full-size bucket q
  abbrev pub bucket_offset : ℕ → ℕ
  bucket_offset i = 4 + i * bucket_size h.width h.rows

  abbrev pub full_offset : ℕ → ℕ
  full_offset q = 4 + (buckets_in h * bucket_size h.width h.rows + q * 65)

  s : Shaped (parse ws)
  s = shaped_parse ws g

  pub bucket-words : (i : ℕ) (b : Bucket) → i < buckets_in h → Lengths h.width (length h.rows) b → flatten (wall h (set v.buckets i b) v.fulls) ≡ splice ws (bucket_offset i) (bucket_words b)
  bucket-words i b k m =
      flatten-bucket h v.buckets v.fulls i b s.buckets (subst (λ n. i < n) (sym s.buckets-number) k) m
      ∙ ap (λ x. splice x (bucket_offset i) (bucket_words b)) (flatten-parse ws g l)

  pub full-words : (q : ℕ) (f : Full) → q < h.full → length f.counts ≡ 64 → flatten (wall h v.buckets (set v.fulls q f)) ≡ splice ws (full_offset q) (full_words f)
  full-words q f k m =
      flatten-full h v.buckets v.fulls q f s.fulls (subst (λ n. q < n) (sym s.fulls-number) k) m
      ∙ ap₂ (λ x n. splice x (4 + (n + q * 65)) (full_words f)) (flatten-parse ws g l) (offset_fulls v s)

  pub both_words : (i : ℕ) (b : Bucket) (q : ℕ) (f : Full) → i < buckets_in h → Lengths h.width (length h.rows) b → q < h.full → length f.counts ≡ 64
      → flatten (wall h (set v.buckets i b) (set v.fulls q f)) ≡ splice (splice ws (bucket_offset i) (bucket_words b)) (full_offset q) (full_words f)
  both_words i b q f k m z n =
      flatten-full h (set v.buckets i b) v.fulls q f s.fulls (subst (λ n. q < n) (sym s.fulls-number) z) n
      ∙ ap₂ (λ x n. splice x (4 + (n + q * 65)) (full_words f)) (bucket-words i b k m) (offset_fulls (wall h (set v.buckets i b) v.fulls) shaped)
    where
      shaped : Shaped (wall h (set v.buckets i b) v.fulls)
      shaped = record {
        buckets-number = length-set v.buckets i b ∙ s.buckets-number;
        fulls-number = s.fulls-number;
        buckets = each_set (Lengths h.width (length h.rows)) v.buckets i b s.buckets m;
        fulls = s.fulls;
      }

  -- ---- the three ways of a step, for any words of good header, sound or not: the bucket's words, then the totals

  abbrev pub totals : List ℕ → ℕ → ℕ → List ℕ
  totals x t u = set (set x 2 t) 3 (join_fields full_fields (h.full ∷ u ∷ h.spread ∷ []))

  module _ (i a c t : ℕ) (k : i < buckets_in h) where
    -- the levels have room
    pub words_held : flag (bucket_at v i) ≡ 0 → no_room v i a c ≡ false
        → flatten (step v i a c t) ≡ totals (splice ws (bucket_offset i) (bucket_words (holding h.width h.rows (set (own_at v i) a c)))) t h.used
    unfolding step
    words_held e z =
        ap₂ (λ m x. flatten (by_mark m (choose x
        (wall (with_totals h t (h.used + 1)) (set v.buckets i (overflowed (bucket_at v i) h.used)) (set v.fulls h.used (move_in empty_full a c)))
        (wall (with_totals h t h.used) (set v.buckets i (holding h.width h.rows (set (own_at v i) a c))) v.fulls))
        (wall (with_totals h t h.used) v.buckets (set v.fulls (full_number (bucket_at v i)) (move_in (full_for v i) a c))))) e z
        ∙ totals_words h t h.used (set v.buckets i (holding h.width h.rows (set (own_at v i) a c))) v.fulls
        ∙ ap (λ x. totals x t h.used) (bucket-words i (holding h.width h.rows (set (own_at v i) a c)) k (hold_lengths h.width h.rows (set (own_at v i) a c)))

    -- the bucket overflows into full-size bucket U
    pub words_over : flag (bucket_at v i) ≡ 0 → no_room v i a c ≡ true → h.used < h.full → flatten (step v i a c t)
        ≡ totals (splice (splice ws (bucket_offset i) (bucket_words (overflowed (bucket_at v i) h.used))) (full_offset h.used) (full_words (move_in empty_full a c))) t (h.used + 1)
    unfolding step
    words_over e z f =
        ap₂ (λ m x. flatten (by_mark m (choose x
        (wall (with_totals h t (h.used + 1)) (set v.buckets i (overflowed (bucket_at v i) h.used)) (set v.fulls h.used (move_in empty_full a c)))
        (wall (with_totals h t h.used) (set v.buckets i (holding h.width h.rows (set (own_at v i) a c))) v.fulls))
        (wall (with_totals h t h.used) v.buckets (set v.fulls (full_number (bucket_at v i)) (move_in (full_for v i) a c))))) e z
        ∙ totals_words h t (h.used + 1) (set v.buckets i (overflowed (bucket_at v i) h.used)) (set v.fulls h.used (move_in empty_full a c))
        ∙ ap (λ x. totals x t (h.used + 1)) (both_words i (overflowed (bucket_at v i) h.used) h.used (move_in empty_full a c) k
        (over_lengths h.width (length h.rows) (bucket_at v i) h.used (each_at (Lengths h.width (length h.rows)) v.buckets i (empty_bucket h.width h.rows) s.buckets (empty_lengths h.width h.rows)))
        f (length_moved empty_full a c (length-replicate {A = ℕ} 64 0)))

    -- the bucket has overflowed: its full-size bucket changes
    pub words-moved : (m : ℕ) → flag (bucket_at v i) ≡ suc m → full_number (bucket_at v i) < h.full
        → flatten (step v i a c t) ≡ totals (splice ws (full_offset (full_number (bucket_at v i))) (full_words (move_in (full_for v i) a c))) t h.used
    unfolding step
    words-moved m e f =
        ap (λ m. flatten (by_mark m (choose (no_room v i a c)
        (wall (with_totals h t (h.used + 1)) (set v.buckets i (overflowed (bucket_at v i) h.used)) (set v.fulls h.used (move_in empty_full a c)))
        (wall (with_totals h t h.used) (set v.buckets i (holding h.width h.rows (set (own_at v i) a c))) v.fulls))
        (wall (with_totals h t h.used) v.buckets (set v.fulls (full_number (bucket_at v i)) (move_in (full_for v i) a c))))) e
        ∙ totals_words h t h.used v.buckets (set v.fulls (full_number (bucket_at v i)) (move_in (full_for v i) a c))
        ∙ ap (λ x. totals x t h.used) (full-words (full_number (bucket_at v i)) (move_in (full_for v i) a c) f (length_moved (full_for v i) a c (len_full e)))
      where
        len_full : flag (bucket_at v i) ≡ suc m → length (full_for v i).counts ≡ 64
        len_full e = subst (λ k. length (by_mark k empty_full (get_or v.fulls (full_number (bucket_at v i)) empty_full)).counts ≡ 64) (sym e)
            (each_at (λ (f : Full). length f.counts ≡ 64) v.fulls (full_number (bucket_at v i)) empty_full s.fulls (length-replicate {A = ℕ} 64 0))
