-- The stopped walk by its steps, said of the definitions. Assumes nothing.
use Prim.Native.Nat.{ℕ, zero, suc, ◌+◌, ◌-◌, ◌/◌, ◌<◌, ◌≤◌}
use mathlib.Core.Path.{◌≡◌, refl, sym, ap, ◌∙◌}
use mathlib.Core.List.{List}
use mathlib.Core.Bool.{true, false, true≢false, false≢true}
use native.Mathlib.Omega.{arith}
use native.Mathlib.Decide.{ℕ_discrete, dec_lt}
use lib.ListN.{length, get_or, set, length-set}
use lib.Seq.{get_or-set_same, get_or-set_other}
use borrow.Author.Tests.{eq-eqb, ne_eqb}
use Rattle.lists.specs.Counting.{count}
use Rattle.lists.proofs.Tests.{agree, differ}
use Rattle.lists.proofs.Counting.{count-more, count-le, count-gap, count_none, count-rises}
use Rattle.bitset.specs.Members.{member, Gains, Next}
use Rattle.bitset.proofs.Bits.{member-same}
use Rattle.answers.specs.declared.Counts.{Counts}
use Rattle.layout.specs.Layout.{size, reads, observable}
use Rattle.layout.specs.Shape.{Shape}
use Rattle.cardtables.specs.Tables.{readers_of, Tabled}
use Rattle.layout.proofs.Firsts.{node-below}
use Rattle.value.specs.Settings.{good}
use Rattle.value.specs.Values.{walk, taken, value}
use Rattle.rules.specs.Rules.{flipped, listed}
use Rattle.rules.proofs.Changes.{flipped_below, flipped-here, good-bit}
use Rattle.rules.proofs.Stopped.{stopped-upto, stopped-beyond}
use Rattle.value.specs.Buffers.{BitsBelow}
use Rattle.change.specs.Flips.{Has}
use Rattle.change.proofs.Laws.{flip-input, flip-output}
use Rattle.critical.specs.Walking.{list_from, due_from, Hidden, Lists, Entries, Upto, Walking, Stepped, walk_ends}
use Rattle.critical.proofs.WalkEnd.{reads-good, stops}

-- a graph is listed by two stores and one set put to another
pub list-stores : {c : Counts} {t xs ys zs us : List ℕ} (h v n : ℕ) → h < 1024 → n < 1024 → 2080 ≤ length xs → ys ≡ set xs h v → zs ≡ set ys (list_from + n) h
    → Gains due_from zs us → ((j : ℕ) → h ≤ j → j < c.graphs → member t (readers_of h) j ≤ member us due_from j) → Lists c t h v n xs us
list-stores {c} {t} {xs} {ys} {zs} {us} h v n b m l e f g due =
    let long : 2080 ≤ length ys = rw (e, length-set) l in
    let one : (i : ℕ) → (i ≡ h → ⊥) → get_or ys i 0 ≡ get_or xs i 0 = λ i o. rw e (get_or-set_other xs h i v 0 o) in
    let two : (i : ℕ) → (i ≡ list_from + n → ⊥) → get_or zs i 0 ≡ get_or ys i 0 = λ i o. rw f (get_or-set_other ys (list_from + n) i h 0 o) in
    record {
      here = g.below h (omega arith) ∙ two h (λ o. omega arith) ∙ rw e (get_or-set_same xs h v 0 (omega arith));
      off = λ i j o. g.below i (omega arith) ∙ two i (λ q. omega arith) ∙ one i o;
      entry = g.below (list_from + n) (omega arith) ∙ rw f (get_or-set_same ys (list_from + n) h 0 (omega arith));
      entries = λ i j o. g.below (list_from + i) (omega arith) ∙ two (list_from + i) (λ q. o (omega arith)) ∙ one (list_from + i) (λ q. omega arith);
      kept = λ j.
          let same = member-same ys zs due_from j (two (due_from + j / 32) (λ q. omega arith)) ∙ member-same xs ys due_from j (one (due_from + j / 32) (λ q. omega arith)) in
          omega (arith, g.kept due_from j, same);
      due = due;
    }

-- and so is one number more
pub entry_more : {c : Counts} {t xs ys : List ℕ} {h v n : ℕ} → Entries c.graphs n xs → h < c.graphs → n < 1024 → Lists c t h v n xs ys → Entries c.graphs (n + 1) ys
entry_more {c} {t} {xs} {ys} {h} {v} {n} s l few z = record {
  some = omega arith;
  inside = λ e b. elim (ℕ_discrete e n) [
    | yes q ↦ rw (q, z.entry) l
    | no q ↦ rw (z.entries e (omega arith) q) (s.inside e (omega arith))
  ];
}

pub entry_first : {c : Counts} {t xs ys : List ℕ} {h v : ℕ} → h < c.graphs → Lists c t h v 0 xs ys → Entries c.graphs 1 ys
entry_first {c} {t} {xs} {ys} {h} {v} l z = record {
  some = omega arith;
  inside = λ e b. let q : e ≡ 0 = omega arith in rw (q, z.entry) l;
}

-- one hidden graph more, and the first
pub hidden-more : {ws : List ℕ} {c : Counts} {t xs ys : List ℕ} {h v n : ℕ} → Hidden ws n xs → n < 1024 → Lists c t h v n xs ys → walk_ends ws h n (n + 1) ≡ false → Hidden ws (n + 1) ys
hidden-more {ws} {c} {t} {xs} {ys} {h} {v} {n} s few z o = record {
  hidden = λ e b. elim (ℕ_discrete e n) [
    | yes q ↦ rw (q, z.entry) (rw (ne_eqb n (n + 1) (λ p. omega arith)) at o)
    | no q ↦ rw (z.entries e (omega arith) q) (s.hidden e (omega arith))
  ];
}

pub hidden-first : {ws : List ℕ} {c : Counts} {t xs ys : List ℕ} {h v : ℕ} → observable ws h ≡ false → Lists c t h v 0 xs ys → Hidden ws 1 ys
hidden-first {ws} o z = record { hidden = λ e b. let q : e ≡ 0 = omega arith in rw (q, z.entry) o }

-- whether the walk ends
pub walk-ends-not : (ws : List ℕ) (h n r : ℕ) → n ≡ r → false ≡ walk_ends ws h n r
walk-ends-not ws h n r e = rw (eq-eqb n r e)

-- a graph that reads h is due once h's readers are
is-due : {ws t : List ℕ} {c : Counts} → Tabled ws c t → (zs : List ℕ) (h j k : ℕ) → ((j : ℕ) → h ≤ j → j < c.graphs → member t (readers_of h) j ≤ member zs due_from j)
    → j < c.graphs → k < size ws j → reads ws j k ≡ h → member zs due_from j ≡ 0 → ⊥
is-due y zs h j k d m i e z =
    let r = y.noted.readers j k i (node-below y.ready.shape j k m i) in
    omega (arith, rw e at r, d j (omega (arith, rw e at (y.ready.shape.reads-lower j m k i))) m)

-- the walk's start, with g flipped
module _ {ws t : List ℕ} {c : Counts} (y : Tabled ws c t) (x : List ℕ) (g : ℕ) (l : g < c.graphs) where
  module _ {n : ℕ} {xs ys zs : List ℕ} (hidden : observable ws g ≡ false) (s : Has (value ws c good x) c.graphs xs)
      (kept : (i : ℕ) → i < due_from → get_or ys i 0 ≡ get_or xs i 0) (e : n ≡ get_or ys g 0) (z : Lists c t g (1 - n) 0 ys zs) (long : c.graphs ≤ length zs) where
    a : Shape ws c
    a = y.ready.shape

    own : n ≡ value ws c good x g
    own = e ∙ kept g (omega (arith, a.few-graphs)) ∙ s.word g l

    other : (i : ℕ) → (i ≡ g → ⊥) → i < c.graphs → get_or zs i 0 ≡ value ws c good x i
    other i o m = z.off i (omega (arith, a.few-graphs)) o ∙ kept i (omega (arith, a.few-graphs)) ∙ s.word i m

    first_on : listed ws c x g g ≡ true
    first_on = differ (flipped ws c x g g) (value ws c good x g) (λ q. omega (arith, q, flipped-here a x g l, good-bit a x g l))

    none_below : (i : ℕ) → i < g → listed ws c x g i ≡ false
    none_below i b = agree _ _ (flipped_below a x g i l b)

    none-counted : count (listed ws c x g) g ≡ 0
    none-counted = count_none (listed ws c x g) g none_below

    pub walk-starts : Walking ws c x g (g + 1) 1 zs
    walk-starts = record {
      upto = record {
        between = record {
          long = long;
          below = λ i b m. elim (ℕ_discrete i g) [
            | yes q ↦ rw q (z.here ∙ ap (1 -◌) own ∙ sym (flipped-here a x g l))
            | no q ↦ other i q m ∙ sym (flipped_below a x g i l (omega arith))
          ];
          onward = λ i b m. other i (λ q. omega arith) m;
        };
        number = sym (sym (count-more (listed ws c x g) g true first_on) ∙ rw none-counted);
        entry = λ i b o. elim (ℕ_discrete i g) [
          | yes q ↦ rw (q, none-counted) z.entry
          | no q ↦ absurd (true≢false (sym o ∙ none_below i (omega arith)))
        ];
      };
      above = omega arith;
      inside = omega arith;
      silent = λ i b o. elim (ℕ_discrete i g) [
        | yes q ↦ absurd (true≢false (sym o ∙ ap (observable ws) q ∙ hidden))
        | no q ↦ flipped_below a x g i l (omega arith)
      ];
      due = λ j k b m i r d. elim (ℕ_discrete (reads ws j k) g) [
        | yes q ↦ absurd (is-due y zs g j k z.due m i q d)
        | no q ↦ flipped_below a x g (reads ws j k) l (omega arith)
      ];
    }

-- the walk at h, in which r is the next graph that is due: no graph before it is listed, by the graphs below n
module _ {ws x : List ℕ} {c : Counts} (a : Shape ws c) {g h n r : ℕ} {xs : List ℕ} (s : Walking ws c x g h n xs) (f : Next xs due_from h c.graphs r) where
  within : g < c.graphs
  within = omega (arith, s.above, s.inside)

  passed : (m i : ℕ) → i < m → h ≤ i → i < r → i < c.graphs → flipped ws c x g i ≡ value ws c good x i
  passed zero i b u e j = absurd (omega arith)
  passed (suc m) i b u e j =
      let up = s.above in
      reads-good a x g within i j (λ o. omega arith) (λ k z.
      let d = a.reads-lower i j k z in
      elim (dec_lt (reads ws i k) h) [
        | yes o ↦ s.due i k u j z o (f.none i u e j)
        | no o ↦ passed m (reads ws i k) (omega arith) (omega arith) (omega arith) (omega arith)
      ])

  -- so at q, up to which none is due, the walk is as at h
  pub skipped : (q : ℕ) → h ≤ q → q ≤ r → q ≤ c.graphs → Walking ws c x g q n xs
  skipped q b u m =
      let pass : (i : ℕ) → h ≤ i → i < q → flipped ws c x g i ≡ value ws c good x i = λ i o j. passed (suc i) i (omega arith) o (omega arith) (omega arith) in
      let up = s.above in
      record {
        upto = record {
          between = record {
            long = s.upto.between.long;
            below = λ i o j. elim (dec_lt i h) [
              | yes k ↦ s.upto.between.below i k j
              | no k ↦ s.upto.between.onward i (omega arith) j ∙ sym (pass i (omega arith) o)
            ];
            onward = λ i o j. s.upto.between.onward i (omega arith) j;
          };
          number = s.upto.number ∙ sym (count-gap (listed ws c x g) h q b (λ i o j. agree _ _ (pass i o j)));
          entry = λ i o e. elim (dec_lt i h) [
            | yes k ↦ s.upto.entry i k e
            | no k ↦ absurd (true≢false (sym e ∙ agree _ _ (pass i (omega arith) o)))
          ];
        };
        above = omega arith;
        inside = m;
        silent = λ i o e. elim (dec_lt i h) [ yes k ↦ s.silent i k e | no k ↦ pass i (omega arith) o ];
        due = λ j k o i z d e. elim (dec_lt (reads ws j k) h) [
          | yes y ↦ s.due j k (omega arith) i z y e
          | no y ↦ pass (reads ws j k) (omega arith) d
        ];
      }

-- ONE STEP at h, with n graphs listed
module _ {ws x t : List ℕ} {c : Counts} (y : Tabled ws c t) {g h n : ℕ} {xs : List ℕ} (m : h < c.graphs) (s : Walking ws c x g h n xs) where
  a' : Shape ws c
  a' = y.ready.shape

  -- h is not listed
  same_step : flipped ws c x g h ≡ value ws c good x h → Stepped ws c x g h n n xs
  same_step e =
      let none = eq-eqb n n refl in
      let up = s.above in
      record {
        seen = λ q. absurd (false≢true (rw none at q));
        goes = λ q. record {
          upto = record {
            between = record {
              long = s.upto.between.long;
              below = λ i o j. elim (ℕ_discrete i h) [
                | yes k ↦ rw k (s.upto.between.onward h (omega arith) m ∙ sym e)
                | no k ↦ s.upto.between.below i (omega arith) j
              ];
              onward = λ i o j. s.upto.between.onward i (omega arith) j;
            };
            number = s.upto.number ∙ sym (sym (count-more (listed ws c x g) h false (agree _ _ e)) ∙ omega arith);
            entry = λ i o b. elim (ℕ_discrete i h) [
              | yes k ↦ absurd (true≢false (sym b ∙ ap (listed ws c x g) k ∙ agree _ _ e))
              | no k ↦ s.upto.entry i (omega arith) b
            ];
          };
          above = omega arith;
          inside = omega arith;
          silent = λ i o b. elim (ℕ_discrete i h) [ yes k ↦ rw k e | no k ↦ s.silent i (omega arith) b ];
          due = λ j k o i z d b. elim (ℕ_discrete (reads ws j k) h) [
            | yes q ↦ rw q e
            | no q ↦ s.due j k (omega arith) i z (omega arith) b
          ];
        };
      }

  pub input-step : h < c.inputs → Stepped ws c x g h n n xs
  input-step i =
      let b = flip-input a' x g s.upto.between s.above m i in
      same_step (sym (b.below h (omega arith) m) ∙ s.upto.between.onward h (omega arith) m)

  -- graph h walked again gives r, and had `own`
  module _ (i : c.inputs ≤ h) {r own : ℕ} (d : BitsBelow h xs → r ≡ walk (taken ws good (λ i. get_or xs i 0) h) (size ws h) 0) (o : own ≡ get_or xs h 0) where
    flipped-is : r ≡ flipped ws c x g h
    flipped-is =
        sym (get_or-set_same xs h r 0 (omega (arith, s.upto.between.long, m)))
        ∙ (flip-output a' x g s.upto.between s.above m i d refl).below h (omega arith) m

    own_is : own ≡ value ws c good x h
    own_is = o ∙ s.upto.between.onward h (omega arith) m

    pub kept_step : r ≡ own → Stepped ws c x g h n n xs
    kept_step e = same_step (sym flipped-is ∙ e ∙ own_is)

    -- the two differ: h is flipped and listed
    module _ (e : r ≡ own → ⊥) {ys : List ℕ} (z : Lists c t h r n xs ys) (long : c.graphs ≤ length ys) where
      apart : flipped ws c x g h ≡ value ws c good x h → ⊥
      apart q = e (flipped-is ∙ q ∙ sym own_is)

      on_list : listed ws c x g h ≡ true
      on_list = differ _ _ apart

      more : Upto ws c x g (h + 1) (n + 1) ys
      more =
          let few = a'.few-graphs in
          record {
            between = record {
              long = long;
              below = λ i b j. elim (ℕ_discrete i h) [
                | yes q ↦ rw q (z.here ∙ flipped-is)
                | no q ↦ z.off i (omega arith) q ∙ s.upto.between.below i (omega arith) j
              ];
              onward = λ i b j. z.off i (omega arith) (λ q. omega arith) ∙ s.upto.between.onward i (omega arith) j;
            };
            number = ap (◌+ 1) s.upto.number ∙ count-more (listed ws c x g) h true on_list;
            entry = λ i b q. elim (ℕ_discrete i h) [
              | yes k ↦ rw (k, ← s.upto.number) z.entry
              | no k ↦
                  let up = count-rises (listed ws c x g) i h (omega arith) q in
                  z.entries (count (listed ws c x g) i) (omega (arith, count-le (listed ws c x g) h)) (λ f. omega (arith, s.upto.number)) ∙ s.upto.entry i (omega arith) q
            ];
          }

      pub listed-step : Stepped ws c x g h n (n + 1) ys
      listed-step =
          let some = ne_eqb n (n + 1) (λ q. omega arith) in
          let up = s.above in
          record {
            seen = λ q.
                let o = rw some at q in
                stops a' x g (omega arith) (omega arith) more (λ i b. stopped-upto ws c x g h i (omega arith) s.silent) (λ i b j. stopped-beyond ws c x g h i (omega arith) o apart);
            goes = λ q. record {
              upto = more;
              above = omega arith;
              inside = omega arith;
              silent = λ i b j. elim (ℕ_discrete i h) [
                | yes k ↦ absurd (true≢false (sym j ∙ ap (observable ws) k ∙ rw some at q))
                | no k ↦ s.silent i (omega arith) j
              ];
              due = λ j k b i f d q. elim (ℕ_discrete (reads ws j k) h) [
                | yes u ↦ absurd (is-due y ys h j k z.due i f u q)
                | no u ↦ s.due j k (omega arith) i f (omega arith) (omega (arith, z.kept j))
              ];
            };
          }
