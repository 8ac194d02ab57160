use Rattle.edges.proofs.Table.{edges}
use Rattle.edges.proofs.Spreads.{spreads}
use Rattle.edges.proofs.stated.Goals as goal

pub returns : goal.returns
returns c = record { edges = edges; spreads = spreads }
