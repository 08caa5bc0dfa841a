-- `layout::is_observable` meets its contract. Assumes nothing.
use mathlib.Core.Path.{◌∙◌}
use Rattle.layout.proofs.NodeNumbers.{header-in, observable-is}
use Rattle.layout.proofs.is_observable.Goals as goal

pub get-requires : goal.get-requires
get-requires c = header-in c.requires c.first_node-first.ensures

pub returns : goal.returns
returns c =
    c.is_kind.ensures ∙ observable-is c.requires c.first_node-first.ensures c.get.ensures
