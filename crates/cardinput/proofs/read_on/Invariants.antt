-- What the loop of `cardinput::read_on` keeps: the bytes handed out are within those wanted, those that were there stay, and no read failed.
-- Assumes nothing.
use Rattle.std.proofs.Common.{◌≡◌, false, ◌≤◌, ℕ, List, length, take, ◌-◌}
use Rattle.std.specs.Prelude.{Option}
use Rattle.cardinput.specs.Reads.{failed}
use Rattle.cardinput.specs.Known.{FrontOf}
use Rattle.cardinput.proofs.read_on.Given as goal

abbrev pub invariant-loop-reader : goal.invariant-loop-reader
invariant-loop-reader g l = record {
  grown : l.fn.source.handed ≤ l.source.handed;
  within : l.source.handed ≤ l.wanted;
  same_length : length l.input ≡ length l.fn.input;
  stay : take l.fn.source.handed l.input ≡ take l.fn.source.handed l.fn.input;
  front : (known : Option (List ℕ)) → FrontOf known (g.R.Read.remaining l.fn.reader) l.fn.source l.fn.input → FrontOf known (g.R.Read.remaining l.reader) l.source l.input;
  not_failed : failed l.source.last ≡ false;
}

abbrev pub decreases-loop-reader : goal.decreases-loop-reader
decreases-loop-reader g l = l.wanted - l.source.handed
