-- The words of a wall and the wall of the words are inverse.
use mathlib.Core.Path.{◌≡◌, refl, sym, ap, ap₂, ◌∙◌}
use mathlib.Core.List.{List, [], ◌∷◌, ◌++◌, map, append-nil}
use Prim.Native.Nat.{ℕ, zero, suc, ◌+◌, ◌*◌, ◌/◌, ◌%◌, ◌^◌, ◌≤◌, ◌<◌}
use native.Mathlib.Nat.{le_of_suc-le-suc, not-suc-le-zero, mod-eq_of_lt}
use native.Mathlib.Omega.{arith}
use lib.Dec.{lit<}
use lib.ListN.{length, get_or, take, drop, set, length-append, length-drop, take-append-drop, length-map}
use lib.Seq.{take_at, drop_at, drop-drop, length-take-le, take_all}
use Rattle.model.specs.Lists.{splice, pieces, concat}
use Rattle.model.specs.Packed.{join_fields}
use Rattle.model.specs.Shapes.{Row, rows_of, bucket_size}
use Rattle.model.specs.Walls.{Header, Bucket, Full, Wall, buckets_in, letters, head_fields, full_fields, full_word, header_words, version, word_at, head_field, read_header, bucket_words, read_bucket, full_words, read_full, flatten, parse_as, parse}
use Rattle.model.proofs.Lists.{map-set}
use Rattle.model.proofs.Slots.{spread-fits}
use Rattle.model.proofs.Fields.{Fill, cut_join, join_cut}
use Rattle.model.proofs.Tools.{Each, each_map, map_back}
use Rattle.model.proofs.Pieces.{Sized, length_cat, chunks_cat, cat_chunks, length_chunks, sized_chunks, chunk_at, splice-after, cat_set}
use Rattle.model.proofs.Headers.{Good, Limits}

-- ---- lists of known length

pub one_word : (l : List ℕ) → length l ≡ 1 → word_at l 0 ∷ [] ≡ l
one_word [] e = absurd (omega arith)
one_word (x ∷ []) e = refl
one_word (x ∷ y ∷ l) e = absurd (omega arith)

pub head-word : (l : List ℕ) → 1 ≤ length l → word_at l 0 ∷ drop 1 l ≡ l
head-word [] e = absurd (not-suc-le-zero e)
head-word (x ∷ l) e = refl

pub four_words : (l : List ℕ) → 4 ≤ length l → word_at l 0 ∷ word_at l 1 ∷ word_at l 2 ∷ word_at l 3 ∷ drop 4 l ≡ l
four_words [] h = absurd (omega arith)
four_words (a ∷ []) h = absurd (omega arith)
four_words (a ∷ b ∷ []) h = absurd (omega arith)
four_words (a ∷ b ∷ c ∷ []) h = absurd (omega arith)
four_words (a ∷ b ∷ c ∷ d ∷ l) h = refl

-- ---- a bucket, a full-size bucket

pub record Lengths (w n : ℕ) (b : Bucket) : Type 0 where
  pub first : length b.first ≡ w
  pub uppers : length b.uppers ≡ n

pub bucket_of_words : (w : ℕ) (rs : List Row) (b : Bucket) → Lengths w (length rs) b → read_bucket w rs (bucket_words b) ≡ b
bucket_of_words w rs b l =
    rw (
      take_at b.first (b.marks ∷ (b.uppers ++ (b.packed ∷ []))) w l.first,
      drop_at b.first (b.marks ∷ (b.uppers ++ (b.packed ∷ []))) w l.first,
      take_at b.uppers (b.packed ∷ []) (length rs) l.uppers,
      drop_at b.uppers (b.packed ∷ []) (length rs) l.uppers,
    )

pub words_of_bucket : (w : ℕ) (rs : List Row) (ws : List ℕ) → length ws ≡ bucket_size w rs → bucket_words (read_bucket w rs ws) ≡ ws
words_of_bucket w rs ws e =
    let d : List ℕ = drop w ws in
    let ld : length d ≡ suc (length rs + 1) = rw length-drop (omega arith) in
    let u : List ℕ = drop 1 d in
    let lu : length u ≡ length rs + 1 = rw (length-drop 1 d) (omega arith) in
    let lp : length (drop (length rs) u) ≡ 1 = rw (length-drop (length rs) u) (omega arith) in
    ap (λ (x : List ℕ). take w ws ++ word_at d 0 ∷ (take (length rs) u ++ x)) (one_word (drop (length rs) u) lp)
    ∙ ap (λ (x : List ℕ). take w ws ++ word_at d 0 ∷ x) (take-append-drop (length rs) u)
    ∙ ap (λ (x : List ℕ). take w ws ++ x) (head-word d (omega arith)) ∙ take-append-drop w ws

pub lengths_read : (w : ℕ) (rs : List Row) (ws : List ℕ) → length ws ≡ bucket_size w rs → Lengths w (length rs) (read_bucket w rs ws)
lengths_read w rs ws e = record {
  first = length-take-le w ws (omega arith);
  uppers = length-take-le (length rs) (drop 1 (drop w ws)) (rw (length-drop 1 (drop w ws), length-drop w ws) (omega arith));
}

pub length-bucket : (w n : ℕ) (b : Bucket) → Lengths w n b → length (bucket_words b) ≡ w + suc (n + 1)
length-bucket w n b l = rw (length-append, l.first, length-append, l.uppers)

-- ---- a wall

abbrev pub wall_of : Header → List Bucket → List Full → Wall
wall_of h bs fs = record { header = h; buckets = bs; fulls = fs }

-- the fields of a header fit their places in the words, and its rows are those of its shape number
pub record Coded (h : Header) : Type 0 where
  pub head : Fill head_fields (letters ∷ version ∷ h.shape ∷ h.width ∷ h.bits ∷ [])
  pub fulls : Fill full_fields (h.full ∷ h.used ∷ h.spread ∷ [])
  pub tabled : h.rows ≡ rows_of h.shape

pub coded_of : (h : Header) → Limits h → h.rows ≡ rows_of h.shape → Coded h
coded_of h l e = record {
  head = (lit< tt, (lit< tt, (omega (arith, l.shape_high), (omega (arith, l.width_high), (omega (arith, l.bits_high), tt)))));
  fulls = (omega (arith, l.full_most), (omega (arith, l.full_most, l.spare_full), (spread-fits h.bits h.spread l.bits_high l.spread-valid, tt)));
  tabled = e;
}

pub record Shaped (v : Wall) : Type 0 where
  pub buckets-number : length v.buckets ≡ buckets_in v.header
  pub fulls-number : length v.fulls ≡ v.header.full
  pub buckets : Each (Lengths v.header.width (length v.header.rows)) v.buckets
  pub fulls : Each (λ (f : Full). length f.counts ≡ 64) v.fulls

header_from : List ℕ → ℕ → ℕ → ℕ → ℕ → ℕ → Header
header_from f m t j u s = record {
  shape = word_at f 2;
  rows = rows_of (word_at f 2);
  width = word_at f 3;
  bits = word_at f 4;
  limit = m;
  total = t;
  full = j;
  used = u;
  spread = s;
}

-- word 3, taken apart
full-word : (j u s : ℕ) → j < 2 ^ 16 → u < 2 ^ 16 → let x : ℕ = join_fields full_fields (j ∷ u ∷ s ∷ []) in (x % 2 ^ 16 ≡ j) × (x / 2 ^ 16 % 2 ^ 16 ≡ u) × (x / 2 ^ 16 / 2 ^ 16 ≡ s)
full-word j u s h k = (omega arith, omega arith, omega arith)

pub read_head : (h : Header) (r : List ℕ) → Coded h → read_header (header_words h ++ r) ≡ h
unfolding header_from
read_head h r c =
    let e = full-word h.full h.used h.spread c.fulls.0 c.fulls.1.0 in
    let x : ℕ = full_word h in
    ap (λ f. header_from f h.limit h.total (x % 2 ^ 16) (x / 2 ^ 16 % 2 ^ 16) (x / 2 ^ 16 / 2 ^ 16)) (cut_join head_fields (letters ∷ version ∷ h.shape ∷ h.width ∷ h.bits ∷ []) c.head)
    ∙ ap (λ j. record { shape = h.shape; rows = rows_of h.shape; width = h.width; bits = h.bits; limit = h.limit; total = h.total; full = j; used = x / 2 ^ 16 % 2 ^ 16; spread = x / 2 ^ 16 / 2 ^ 16 }) e.0
    ∙ ap₂ (λ u s. record { shape = h.shape; rows = rows_of h.shape; width = h.width; bits = h.bits; limit = h.limit; total = h.total; full = h.full; used = u; spread = s }) e.1 e.2
    ∙ ap (λ t. record { shape = h.shape; rows = t; width = h.width; bits = h.bits; limit = h.limit; total = h.total; full = h.full; used = h.used; spread = h.spread }) (sym c.tabled)

pub head_marked : (h : Header) (r : List ℕ) → Fill head_fields (letters ∷ version ∷ h.shape ∷ h.width ∷ h.bits ∷ [])
    → (head_field (header_words h ++ r) 0 ≡ letters) × (head_field (header_words h ++ r) 1 ≡ version)
head_marked h r a =
    let e = cut_join head_fields (letters ∷ version ∷ h.shape ∷ h.width ∷ h.bits ∷ []) a in (ap (λ f. word_at f 0) e, ap (λ f. word_at f 1) e)

pub sized_buckets : (w n : ℕ) (bs : List Bucket) → Each (Lengths w n) bs → Sized (w + suc (n + 1)) (map bucket_words bs)
sized_buckets w n [] h = tt
sized_buckets w n (b ∷ bs) h = (length-bucket w n b h.0, sized_buckets w n bs h.1)

pub sized_fulls : (fs : List Full) → Each (λ (f : Full). length f.counts ≡ 64) fs → Sized 65 (map full_words fs)
sized_fulls [] h = tt
sized_fulls (f ∷ fs) h = (ap suc h.0, sized_fulls fs h.1)

pub offset_fulls : (v : Wall) → Shaped v → length (concat (map bucket_words v.buckets)) ≡ buckets_in v.header * bucket_size v.header.width v.header.rows
offset_fulls v s =
    length_cat (bucket_size v.header.width v.header.rows) (map bucket_words v.buckets) (sized_buckets v.header.width (length v.header.rows) v.buckets s.buckets)
    ∙ ap (λ n. n * bucket_size v.header.width v.header.rows) (length-map v.buckets bucket_words ∙ s.buckets-number)

pub parse-flatten : (v : Wall) → Coded v.header → Shaped v → parse (flatten v) ≡ v
unfolding parse flatten
parse-flatten v c s =
    let h : Header = v.header in
    let n : ℕ = bucket_size h.width h.rows in
    let bs : List ℕ = concat (map bucket_words v.buckets) in
    let fs : List ℕ = concat (map full_words v.fulls) in
    let eb : pieces n (buckets_in h) (bs ++ fs) ≡ map bucket_words v.buckets =
    ap (λ k. pieces n k (bs ++ fs)) (sym (length-map v.buckets bucket_words ∙ s.buckets-number))
    ∙ chunks_cat n (map bucket_words v.buckets) fs (sized_buckets h.width (length h.rows) v.buckets s.buckets) in
    let ef : drop (4 + buckets_in h * n) (flatten v) ≡ fs =
    sym (drop-drop (buckets_in h * n) 4 (flatten v)) ∙ drop_at bs fs (buckets_in h * n) (offset_fulls v s) in
    let eg : pieces 65 h.full fs ≡ map full_words v.fulls =
    ap (λ k. pieces 65 k fs) (sym (length-map v.fulls full_words ∙ s.fulls-number)) ∙ cat_nil (map full_words v.fulls) (sized_fulls v.fulls s.fulls) in
    ap (λ h. parse_as h (flatten v)) (read_head h (bs ++ fs) c)
    ∙ ap₂ (λ x y. wall_of h x y)
    (ap (map (read_bucket h.width h.rows)) eb ∙ map_back (Lengths h.width (length h.rows)) bucket_words (read_bucket h.width h.rows) (bucket_of_words h.width h.rows) v.buckets s.buckets)
    (ap (λ l. map read_full (pieces 65 h.full l)) ef ∙ ap (map read_full) eg ∙ map_back (λ (f : Full). length f.counts ≡ 64) full_words read_full (λ f l. refl) v.fulls s.fulls)
  where
    cat_nil : (cs : List (List ℕ)) → Sized 65 cs → pieces 65 (length cs) (concat cs) ≡ cs
    cat_nil cs z = ap (pieces 65 (length cs)) (sym (append-nil (concat cs))) ∙ chunks_cat 65 cs [] z

-- ---- the other way round: words of 64 bits with a good header

pub head-words : (ws : List ℕ) → Good ws → word_at ws 0 < 2 ^ 64 → header_words (read_header ws) ++ drop 4 ws ≡ ws
head-words ws g l =
    let w0 : join_fields head_fields (letters ∷ version ∷ head_field ws 2 ∷ head_field ws 3 ∷ head_field ws 4 ∷ []) ≡ word_at ws 0 =
    ap₂ (λ x y. join_fields head_fields (x ∷ y ∷ head_field ws 2 ∷ head_field ws 3 ∷ head_field ws 4 ∷ [])) (sym g.marked) (sym g.version)
    ∙ join_cut head_fields (word_at ws 0) ∙ mod-eq_of_lt l in
    let w3 : full_word (read_header ws) ≡ word_at ws 3 = omega arith in
    ap₂ (λ x y. x ∷ word_at ws 1 ∷ word_at ws 2 ∷ y ∷ drop 4 ws) w0 w3 ∙ four_words ws g.long

-- the lengths of a good wall
pub length_rest : (ws : List ℕ) → Good ws → length (drop 4 ws) ≡ buckets_in (read_header ws) * bucket_size (read_header ws).width (read_header ws).rows + 65 * (read_header ws).full
length_rest ws g = rw length-drop (omega (arith, g.exact))

pub flatten-parse : (ws : List ℕ) → Good ws → word_at ws 0 < 2 ^ 64 → flatten (parse ws) ≡ ws
unfolding parse flatten
flatten-parse ws g l =
    let h : Header = read_header ws in
    let n : ℕ = bucket_size h.width h.rows in
    let d : List ℕ = drop 4 ws in
    let e : List ℕ = drop (4 + buckets_in h * n) ws in
    let lr : length d ≡ buckets_in h * n + 65 * h.full = length_rest ws g in
    let ed : e ≡ drop (buckets_in h * n) d = sym (drop-drop (buckets_in h * n) 4 ws) in
    let le : length e ≡ h.full * 65 = ap length ed ∙ length-drop (buckets_in h * n) d ∙ omega arith in
    let eb : concat (map bucket_words (map (read_bucket h.width h.rows) (pieces n (buckets_in h) d))) ≡ take (buckets_in h * n) d =
    ap concat (map_back (λ (c : List ℕ). length c ≡ n) (read_bucket h.width h.rows) bucket_words (words_of_bucket h.width h.rows) (pieces n (buckets_in h) d) (sized_chunks n (buckets_in h) d (omega arith)))
    ∙ cat_chunks n (buckets_in h) d in
    let ef : concat (map full_words (map read_full (pieces 65 h.full e))) ≡ drop (buckets_in h * n) d =
    ap concat (map_back (λ (c : List ℕ). length c ≡ 65) read_full full_words (λ c z. head-word c (omega arith)) (pieces 65 h.full e) (sized_chunks 65 h.full e (omega arith)))
    ∙ cat_chunks 65 h.full e ∙ take_all (h.full * 65) e (omega arith) ∙ ed in
    ap₂ (λ (x y : List ℕ). header_words h ++ (x ++ y)) eb ef ∙ ap (λ (x : List ℕ). header_words h ++ x) (take-append-drop (buckets_in h * n) d) ∙ head-words ws g l

pub shaped_parse : (ws : List ℕ) → Good ws → Shaped (parse ws)
unfolding parse
shaped_parse ws g =
    let h : Header = read_header ws in
    let n : ℕ = bucket_size h.width h.rows in
    let e : List ℕ = drop (4 + buckets_in h * n) ws in
    let lr : length (drop 4 ws) ≡ buckets_in h * n + 65 * h.full = length_rest ws g in
    let le : length e ≡ h.full * 65 = length-drop (4 + buckets_in h * n) ws ∙ omega (arith, g.exact) in
    record {
      buckets-number = length-map (pieces n (buckets_in h) (drop 4 ws)) (read_bucket h.width h.rows) ∙ length_chunks n (buckets_in h) (drop 4 ws);
      fulls-number = length-map (pieces 65 h.full e) read_full ∙ length_chunks 65 h.full e;
      buckets = each_map (Lengths h.width (length h.rows)) (λ (c : List ℕ). length c ≡ n) (read_bucket h.width h.rows) (lengths_read h.width h.rows) (pieces n (buckets_in h) (drop 4 ws)) (sized_chunks n (buckets_in h) (drop 4 ws) (omega arith));
      fulls = each_map (λ (f : Full). length f.counts ≡ 64) (λ (c : List ℕ). length c ≡ 65) read_full (λ c z. length-drop 1 c ∙ omega arith) (pieces 65 h.full e) (sized_chunks 65 h.full e (omega arith));
    }

-- ---- by offset

pub get_or_in : {A : Type 0} (l : List A) (i : ℕ) (d e : A) → i < length l → get_or l i d ≡ get_or l i e
get_or_in [] i d e h = absurd (not-suc-le-zero h)
get_or_in (x ∷ l) zero d e h = refl
get_or_in (x ∷ l) (suc i) d e h = get_or_in l i d e (le_of_suc-le-suc h)

get_or-map_in : {A B : Type 0} (f : A → B) (l : List A) (i : ℕ) (a : A) (b : B) → i < length l → get_or (map f l) i b ≡ f (get_or l i a)
get_or-map_in f [] i a b h = absurd (not-suc-le-zero h)
get_or-map_in f (x ∷ l) zero a b h = refl
get_or-map_in f (x ∷ l) (suc i) a b h = get_or-map_in f l i a b (le_of_suc-le-suc h)

pub bucket-at : (ws : List ℕ) (i : ℕ) (d : Bucket) → i < buckets_in (read_header ws) → get_or (parse ws).buckets i d
    ≡ read_bucket (read_header ws).width (read_header ws).rows (take (bucket_size (read_header ws).width (read_header ws).rows) (drop (4 + i * bucket_size (read_header ws).width (read_header ws).rows) ws))
unfolding parse
bucket-at ws i d k =
    let h : Header = read_header ws in
    let n : ℕ = bucket_size h.width h.rows in
    get_or-map_in (read_bucket h.width h.rows) (pieces n (buckets_in h) (drop 4 ws)) i [] d (rw length_chunks k)
    ∙ ap (read_bucket h.width h.rows) (chunk_at n (buckets_in h) (drop 4 ws) i k ∙ ap (take n) (drop-drop (i * n) 4 ws))

pub full_at : (ws : List ℕ) (q : ℕ) (d : Full) → q < (read_header ws).full → get_or (parse ws).fulls q d
    ≡ read_full (take 65 (drop (4 + buckets_in (read_header ws) * bucket_size (read_header ws).width (read_header ws).rows + q * 65) ws))
unfolding parse
full_at ws q d k =
    let h : Header = read_header ws in
    let o : ℕ = 4 + buckets_in h * bucket_size h.width h.rows in
    get_or-map_in read_full (pieces 65 h.full (drop o ws)) q [] d (rw length_chunks k)
    ∙ ap read_full (chunk_at 65 h.full (drop o ws) q k ∙ ap (take 65) (drop-drop (q * 65) o ws))

pub flatten-bucket : (h : Header) (bs : List Bucket) (fs : List Full) (i : ℕ) (b : Bucket)
    → Each (Lengths h.width (length h.rows)) bs → i < length bs → Lengths h.width (length h.rows) b
    → flatten (wall_of h (set bs i b) fs) ≡ splice (flatten (wall_of h bs fs)) (4 + i * bucket_size h.width h.rows) (bucket_words b)
unfolding flatten
flatten-bucket h bs fs i b s k l =
    ap (λ cs. header_words h ++ (concat cs ++ concat (map full_words fs))) (map-set bucket_words bs i b)
    ∙ ap (λ (x : List ℕ). header_words h ++ x) (cat_set (bucket_size h.width h.rows) (map bucket_words bs) (concat (map full_words fs)) i (bucket_words b)
    (sized_buckets h.width (length h.rows) bs s) (rw length-map k) (length-bucket h.width (length h.rows) b l))
    ∙ sym (splice-after (header_words h) (concat (map bucket_words bs) ++ concat (map full_words fs)) (i * bucket_size h.width h.rows) (bucket_words b))

pub flatten-full : (h : Header) (bs : List Bucket) (fs : List Full) (q : ℕ) (f : Full)
    → Each (λ (x : Full). length x.counts ≡ 64) fs → q < length fs → length f.counts ≡ 64
    → flatten (wall_of h bs (set fs q f)) ≡ splice (flatten (wall_of h bs fs)) (4 + (length (concat (map bucket_words bs)) + q * 65)) (full_words f)
unfolding flatten
flatten-full h bs fs q f s k l =
    let n : List ℕ = concat (map bucket_words bs) in
    ap (λ cs. header_words h ++ (n ++ concat cs)) (map-set full_words fs q f)
    ∙ ap (λ (x : List ℕ). header_words h ++ (n ++ x)) (sym (append-nil (concat (set (map full_words fs) q (full_words f)))) ∙ cat_set 65 (map full_words fs) [] q (full_words f) (sized_fulls fs s) (rw length-map k) (ap suc l)
    ∙ ap (λ (x : List ℕ). splice x (q * 65) (full_words f)) (append-nil (concat (map full_words fs))))
    ∙ ap (λ (x : List ℕ). header_words h ++ x) (sym (splice-after n (concat (map full_words fs)) (q * 65) (full_words f)))
    ∙ sym (splice-after (header_words h) (n ++ concat (map full_words fs)) (length n + q * 65) (full_words f))
