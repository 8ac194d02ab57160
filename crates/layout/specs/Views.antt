-- A header of the code as the model's.
use Rattle.model.specs.Shapes.{rows_of}
use Rattle.model.specs.Walls as model
use Rattle.layout.specs.declared.Wall.{Wall}

abbrev pub header_of : Wall → model.Header
header_of v = record {
  shape = v.shape;
  rows = rows_of v.shape;
  width = v.width;
  bits = v.bits;
  limit = v.limit;
  total = v.total;
  full = v.full;
  used = v.used;
  spread = v.spread;
}
