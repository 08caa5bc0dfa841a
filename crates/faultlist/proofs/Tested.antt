-- The loop over a list of faults, its tests one after another, and what a list that passes them has. Assumes nothing.
use Prim.Native.Nat.{ℕ, suc, ◌+◌, ◌-◌, ◌/◌, ◌<◌, ◌≤◌}
use mathlib.Core.Path.{◌≡◌, refl, ◌∙◌}
use mathlib.Core.List.{List}
use mathlib.Core.Bool.{true, false}
use native.Mathlib.Numerals.{add-one}
use native.Mathlib.Omega.{arith}
use lib.ListN.{length, get_or, take, drop, length-drop, drop_of_length-le}
use lib.Seq.{take_all, drop-cons}
use borrow.Author.Tests.{lt-ltb, le-ltb, ltb-false}
use Rattle.answers.specs.declared.Counts.{Counts}
use Rattle.answers.specs.declared.Rule.TheVariants.{NumberTooHigh, FaultListForm, BufferTooShort}
use Rattle.std.specs.Prelude.{Ok, Err}
use Rattle.answers.specs.Answers.{refused}
use Rattle.answers.specs.Tests.{first_broken, room_test}
use Rattle.answers.proofs.Tests.{all-passed}
use Rattle.faultlist.specs.Faults.{too_high, at_site, site_twice, fault_tests}

-- a loop over a list: the numbers from i on, of which the later ones are lent as a slice
module _ (fs : List ℕ) where
  abbrev later : ℕ → List ℕ
  later i = take (length fs - (i + 1)) (drop (i + 1) fs)

  later-is : (i : ℕ) → later i ≡ drop (suc i) fs
  later-is i = take_all (length fs - (i + 1)) (drop (i + 1) fs) (omega (arith, length-drop (i + 1) fs)) ∙ rw add-one refl

  pub twice-over : (i : ℕ) → length fs ≤ i → site_twice (drop i fs) ≡ false
  unfolding site_twice
  twice-over i h = rw (drop_of_length-le fs h)

  pub twice-hit : (i : ℕ) → i < length fs → at_site (get_or fs i 0 / 2) (later i) ≡ true → site_twice (drop i fs) ≡ true
  unfolding site_twice
  twice-hit i h e = rw (drop-cons fs i 0 h, rw (later-is i) at e)

  pub twice-next : (i : ℕ) → i < length fs → at_site (get_or fs i 0 / 2) (later i) ≡ false → site_twice (drop i fs) ≡ site_twice (drop (i + 1) fs)
  unfolding site_twice
  twice-next i h e = rw (add-one, drop-cons fs i 0 h, rw (later-is i) at e)

-- the tests one after another, each where those before it pass
module _ (extra : ℕ) (fs : List ℕ) (room : ℕ) (c : Counts) where
  pub high-told : too_high c.faults fs ≡ true → Err (refused NumberTooHigh 0) ≡ first_broken (fault_tests extra fs room c)
  unfolding fault_tests
  high-told e = rw e

  module _ (low : too_high c.faults fs ≡ false) where
    pub odd-told : 0 < extra → Err (refused FaultListForm 0) ≡ first_broken (fault_tests extra fs room c)
    unfolding fault_tests
    odd-told h = rw (low, lt-ltb 0 extra h)

    module _ (even : extra ≤ 0) where
      pub many-told : 8 < length fs → Err (refused FaultListForm 0) ≡ first_broken (fault_tests extra fs room c)
      unfolding fault_tests
      many-told h = rw (low, le-ltb 0 extra even, lt-ltb 8 (length fs) h)

      module _ (few : length fs ≤ 8) where
        pub twice-told : site_twice fs ≡ true → Err (refused FaultListForm 0) ≡ first_broken (fault_tests extra fs room c)
        unfolding fault_tests
        twice-told e = rw (low, le-ltb 0 extra even, le-ltb 8 (length fs) few, e)

        module _ (apart : site_twice fs ≡ false) where
          pub room-told : first_broken (room_test c.graphs room) ≡ first_broken (fault_tests extra fs room c)
          unfolding fault_tests
          room-told = rw (low, le-ltb 0 extra even, le-ltb 8 (length fs) few, apart)

          pub none_told : c.graphs ≤ room → (Ok tt) ≡ first_broken (fault_tests extra fs room c)
          unfolding fault_tests
          none_told h = rw (low, le-ltb 0 extra even, le-ltb 8 (length fs) few, apart, le-ltb room c.graphs h)

  -- a call that passes them has no two faults of one site, and room for the values
  module _ (e : first_broken (fault_tests extra fs room c) ≡ Ok tt) where
    pub faults-apart : site_twice fs ≡ false
    unfolding fault_tests
    faults-apart = (all-passed (fault_tests extra fs room c) e).1.1.1.0

    pub values-room : c.graphs ≤ room
    unfolding fault_tests
    values-room = ltb-false room c.graphs (all-passed (fault_tests extra fs room c) e).1.1.1.1.0
