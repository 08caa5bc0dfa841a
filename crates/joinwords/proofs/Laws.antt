-- New numbers and moved words as the loops work them out, and the tests of wires. Assumes nothing.
use Prim.Native.Nat.{ℕ, zero, suc, ◌+◌, ◌-◌, ◌*◌, ◌<◌, ◌≤◌}
use mathlib.Core.Path.{◌≡◌, refl, sym, ap, ap₂, ◌∙◌}
use mathlib.Core.List.{List, [], ◌∷◌, map}
use mathlib.Core.Bool.{Bool, true, false, cond, not}
use Rattle.std.specs.Prelude.{Some, None, count_by}
use Rattle.std.specs.List.{position_or_len}
use Rattle.std.specs.Option.{unwrap_or}
use Rattle.std.proofs.lemmas.List.Sums.{fold_push, fails_before_first, passes_at_first, prefix_len-le-length}
use native.Mathlib.Numerals.{add-one}
use native.Mathlib.Omega.{arith}
use native.Mathlib.Decide.{dec_lt}
use lib.ListN.{length, get_or, set, take}
use lib.Seq.{take-suc, take-length}
use lib.Dec.{eqb, ltb}
use borrow.Author.Tests.{lt-ltb, le-ltb, eq-eqb, ne_eqb}
use Rattle.lists.specs.Counting.{choose, count, least}
use Rattle.lists.specs.Tables.{at, over}
use Rattle.lists.proofs.Counting.{count_next, count-le, least_start, least-past, least-here}
use Rattle.lists.proofs.Tables.{over-store}
use Rattle.word32.specs.Fields.{kind, read_graph, with_read}
use Rattle.answers.specs.declared.Counts.{Counts}
use Rattle.answers.specs.declared.Rule.TheVariants.{WireForm}
use Rattle.std.specs.Prelude.{Err}
use Rattle.answers.specs.Answers.{Verdict, refused}
use Rattle.answers.specs.Tests.{first_broken}
use Rattle.form.specs.Check.{counts, card_length}
use Rattle.wiring.specs.Joined.{is_free, free_below, wrong_wire, size_tests, renumbered, moved, free, joined_counts, join_tests}
use Rattle.joinwords.specs.Numbers.{wire_of, Numbered, LowWires, wired_input}

-- the new number of a graph stands among those of the inputs, or is counted from the first output's
module _ (inputs : List ℕ) (start g : ℕ) where
  pub number-input : g < length inputs → get_or inputs g 0 ≡ renumbered (length inputs) (at inputs) start g
  number-input h = rw (lt-ltb g (length inputs) h)

  pub number-output : length inputs ≤ g → start + (g - length inputs) ≡ renumbered (length inputs) (at inputs) start g
  number-output h = rw (le-ltb g (length inputs) h)

  -- and is small
  pub number-low : {most : ℕ} → Numbered most inputs start → renumbered (length inputs) (at inputs) start g ≤ most + g
  number-low y = elim (dec_lt g (length inputs)) [
    | yes l ↦ rw (← number-input l) (omega (arith, y.low g l))
    | no n ↦ rw (← number-output (omega arith)) (omega (arith, y.few))
  ]

-- it goes by the rule's numbers
pub renumbered-same : (m : ℕ) (f f' : ℕ → ℕ) (start g : ℕ) → ((i : ℕ) → i < m → f i ≡ f' i) → renumbered m f start g ≡ renumbered m f' start g
renumbered-same m f f' start g h = elim (dec_lt g m) [
  | yes l ↦ rw (lt-ltb g m l) (h g l)
  | no n ↦ let o : m ≤ g = omega arith in rw (le-ltb g m o)
]

pub moved-map : (f f' : ℕ → ℕ) → ((g : ℕ) → f g ≡ f' g) → (l : List ℕ) → map (moved f) l ≡ map (moved f') l
unfolding moved
moved-map f f' h [] = refl
moved-map f f' h (w ∷ l) = ap₂ ◌∷◌ (ap (λ (n : ℕ). choose (eqb (kind w) 3) (with_read w n) w) (h (read_graph w))) (moved-map f f' h l)

-- a word under new numbers: 0 is no read
pub moved-zero : (number : ℕ → ℕ) → moved number 0 ≡ 0
unfolding moved
moved-zero number = refl

-- the numbers of B's inputs fit a word
pub wired-low : (wires inputs : List ℕ) (start i due : ℕ) → LowWires wires → Numbered 2048 inputs start → i < length wires → due ≤ 2048
    → choose (is_free wires i) due (renumbered (length inputs) (at inputs) start (get_or wires i 0)) ≤ 4096
wired-low wires inputs start i due y z h l = go (is_free wires i) refl
  where
    go : (b : Bool) → is_free wires i ≡ b → choose b due (renumbered (length inputs) (at inputs) start (get_or wires i 0)) ≤ 4096
    go true e = omega arith
    go false e = omega (arith, number-low inputs start (get_or wires i 0) z, y.low i h e)

-- the library's count and its first place, of the words of a list
module _ (p : ℕ → Bool) (xs : List ℕ) where
  abbrev passes : ℕ → Bool
  passes i = p (get_or xs i 0)

  counted-to : (n : ℕ) → n ≤ length xs → count_by p (take n xs) ≡ count passes n
  unfolding count
  counted-to zero l = refl
  counted-to (suc n) l =
      ap (count_by p) (take-suc xs n 0 (omega arith)) ∙ fold_push (λ a x. a + cond (p x) 1 0) 0 (take n xs) (get_or xs n 0)
      ∙ rw (counted-to n (omega arith)) (one (p (get_or xs n 0)))
    where
      one : (b : Bool) → count passes n + cond b 1 0 ≡ count passes n + choose b 1 0
      one true = refl
      one false = refl

  pub words-counted : count_by p xs ≡ count passes (length xs)
  words-counted = ap (count_by p) (sym (take-length xs)) ∙ counted-to (length xs) (omega arith)

  -- where none passes the library tells no place
  pub place-or-end : unwrap_or (cond (ltb (position_or_len p xs) (length xs)) (Some (position_or_len p xs)) None) (length xs) ≡ position_or_len p xs
  place-or-end = elim (dec_lt (position_or_len p xs) (length xs)) [
    | yes l ↦ rw (lt-ltb (position_or_len p xs) (length xs) l)
    | no n ↦
        let k : length xs ≤ position_or_len p xs = omega arith in
        rw (le-ltb (position_or_len p xs) (length xs) k) (omega (arith, prefix_len-le-length (λ x. not (p x)) xs))
  ]

  least-clear : (n : ℕ) → ((k : ℕ) → k < n → passes k ≡ false) → least passes n ≡ n
  least-clear zero h = least_start passes
  least-clear (suc n) h =
      let e = least-past passes n (least-clear n (λ k l. h k (omega arith))) (h n (omega arith)) in
      rw (← add-one n) e

  pub first-found : position_or_len p xs ≡ least passes (length xs)
  first-found =
      let m = position_or_len p xs in
      let clear = least-clear m (λ k l. fails_before_first p xs k 0 l) in
      elim (dec_lt m (length xs)) [
        | yes l ↦ sym (least-here passes (length xs) m l clear (passes_at_first p xs 0 l))
        | no n ↦
            let e : m ≡ length xs = omega (arith, prefix_len-le-length (λ x. not (p x)) xs) in
            rw (← e) (sym clear)
      ]

-- what a wire word tells: the graph that it names, or that its input is free
pub wire-told : (w : ℕ) {g : ℕ} → wire_of w ≡ Some g → (eqb w 0xFFFFFFFF ≡ false) × (w ≡ g)
wire-told w {g} e = go (eqb w 0xFFFFFFFF) refl
  where
    go : (b : Bool) → eqb w 0xFFFFFFFF ≡ b → (b ≡ false) × (w ≡ g)
    go true q = cc
    go false q = (refl, cc)

pub wire-free : (w : ℕ) → wire_of w ≡ None → eqb w 0xFFFFFFFF ≡ true
wire-free w e = go (eqb w 0xFFFFFFFF) refl
  where
    go : (b : Bool) → eqb w 0xFFFFFFFF ≡ b → b ≡ true
    go true q = refl
    go false q = cc

-- one wire word more
pub free-next : (wires : List ℕ) (i : ℕ) → free_below wires (i + 1) ≡ free_below wires i + choose (is_free wires i) 1 0
free-next wires i = rw add-one (count_next (is_free wires) i)

pub free-none : (wires : List ℕ) → free_below wires 0 ≡ 0
unfolding count
free-none wires = refl

pub free-few : (wires : List ℕ) (i : ℕ) → free_below wires i ≤ i
free-few wires i = count-le (is_free wires) i

-- the number of one input of B more, where the next free one is due: that of the graph named, or the one due
module _ (wires inputs : List ℕ) (start i : ℕ) (d : List ℕ) {due : ℕ} {out : List ℕ} (q : due ≡ length inputs + free_below wires i)
    (o : out ≡ over i (wired_input wires inputs start) d) (l : i < length d) where
  pub wired-named : {g n : ℕ} → wire_of (get_or wires i 0) ≡ Some g → n ≡ renumbered (length inputs) (at inputs) start g
      → (due ≡ length inputs + free_below wires (i + 1)) × (set out i n ≡ over (i + 1) (wired_input wires inputs start) d)
  wired-named {g} {n} e z =
      let (b, w) = wire-told (get_or wires i 0) e in
      (omega (arith, (rw b at (free-next wires i))), rw o (over-store (wired_input wires inputs start) d i n l (rw (b, w) z)))

  pub wired-free : wire_of (get_or wires i 0) ≡ None
      → (due + 1 ≡ length inputs + free_below wires (i + 1)) × (set out i due ≡ over (i + 1) (wired_input wires inputs start) d)
  wired-free e =
      let b = wire-free (get_or wires i 0) e in
      (omega (arith, (rw b at (free-next wires i))), rw o (over-store (wired_input wires inputs start) d i due l (rw b q)))

-- the tests: another number of wire words, a wrong one, or the size
module _ (A B : Counts) (wires : List ℕ) (n room : ℕ) where
  pub wires-number : (length wires ≡ B.inputs → ⊥) → Err (refused WireForm 0) ≡ first_broken (join_tests A B wires n room)
  unfolding join_tests
  wires-number h = rw (ne_eqb (length wires) B.inputs h)

  module _ (e : length wires ≡ B.inputs) (i : ℕ) (q : i ≡ least (wrong_wire A.graphs wires) (length wires)) where
    pub wires-wrong : i < length wires → Err (refused WireForm i) ≡ first_broken (join_tests A B wires n room)
    unfolding join_tests
    wires-wrong l = rw (eq-eqb (length wires) B.inputs e, ← q, lt-ltb i (length wires) l)

    wires-right : length wires ≤ i → first_broken (size_tests (joined_counts A B wires) n room) ≡ first_broken (join_tests A B wires n room)
    unfolding join_tests
    wires-right l = rw (eq-eqb (length wires) B.inputs e, ← q, le-ltb i (length wires) l)

-- the size, as it is tested with f free inputs
pub size-tested : (A B : Counts) (wires : List ℕ) (room f i : ℕ) {r : Verdict} → length wires ≡ B.inputs
    → i ≡ least (wrong_wire A.graphs wires) (length wires) → length wires ≤ i → f ≡ free_below wires (length wires)
    → ((m o : ℕ) → r ≡ first_broken (size_tests (counts m (A.graphs + f + (B.graphs - B.inputs)) (A.nodes + B.nodes) o)
    (A.graphs + f + (B.graphs - B.inputs) + 2 * (A.nodes + B.nodes)) room))
    → r ≡ first_broken (join_tests A B wires (card_length (joined_counts A B wires)) room)
size-tested A B wires room f i e q l z h =
    (rw (z, e) at (h (A.inputs + free A B wires) (A.observable + B.observable)))
    ∙ wires-right A B wires (card_length (joined_counts A B wires)) room e i q l
