-- What `cardgrade::grade` wrote is the text of the whole input. Assumes nothing.
use Rattle.std.proofs.Common.{◌≡◌, Result, Ok, Err, is_ok, OnOk}
use Rattle.cardgrade.proofs.Whole.{all-written}
use Rattle.cardgrade.proofs.grade.Goals as goal

-- where one outcome is a success as another is
as-told : {A B C D : Type 0} (r : Result A B) (q : Result C D) (P Q : Type 0) → is_ok q ≡ is_ok r → (P → Q) → OnOk r P → OnOk q Q
as-told (Ok a) (Ok b) P Q e f h = f h
as-told (Ok a) (Err b) P Q e f h = tt
as-told (Err a) (Ok b) P Q e f h = cc
as-told (Err a) (Err b) P Q e f h = tt

pub returns : goal.returns
returns g c =
    as-told c.print_report.result c.map_err.result _ _ c.map_err.ensures.variant
    (all-written _ _ _ _ _ c.in_ok-source.ensures.came c.in_ok-source.ensures.first) c.print_report.ensures
