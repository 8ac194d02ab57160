use Rattle.demands.proofs.One.{demand_one}
use Rattle.demands.proofs.Two.{demand_two}
use Rattle.demands.proofs.Three.{demand_three}
use Rattle.demands.proofs.Starts.{beginnings}
use Rattle.demands.proofs.BusyList.{busy-list}
use Rattle.demands.proofs.Layouts.{layouts}
use Rattle.demands.proofs.Spreads.{spreads}
use Rattle.demands.proofs.stated.Goals as goal

pub returns : goal.returns
returns c = record {
  demand_one = demand_one;
  demand_two = demand_two;
  demand_three = demand_three;
  beginnings = beginnings;
  busy_list = busy-list;
  layouts = layouts;
  spreads = spreads;
}
