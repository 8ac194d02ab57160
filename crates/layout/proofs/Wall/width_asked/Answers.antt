use Rattle.layout.proofs.Refused.{asked-other}
use Rattle.layout.proofs.Wall.width_asked.Goals as goal

pub returns : goal.returns
returns c = asked-other c.args.width c.if-width-eq0.false
