-- THE WHOLE INPUT: what the program grades is all of it, as far as it decides, given what is trusted of the reads. Assumes nothing.
use Rattle.std.proofs.Common.{◌≡◌, ℕ, ◌+◌, ◌*◌, ◌≤◌, Bool, true, false, ◌||◌, ltb, List, length, take, Option, None, Some, Ok, sym, ap, subst, ◌∙◌, refl, rules, arith}
use Rattle.std.proofs.lemmas.List.{take_all, take-take, take-append-le, length-append, length-take-le}
use Rattle.std.proofs.Math.Decide.{dec_lt}
use Rattle.std.specs.Prelude.{IfSome}
use Rattle.lists.specs.Counting.{choose}
use Rattle.answers.specs.Limits.{max_words}
use Rattle.report.specs.Report.{max_vector_words, word_count, text_of, bytes_wanted}
use Rattle.report.proofs.Cases.{text-front}
use Rattle.cardinput.proofs.Fronts.{shorter-fronts}
use Rattle.cardinput.specs.declared.reads.Source.{Source}
use Rattle.cardinput.specs.declared.reads.Answer.TheVariants.{Bytes}
use Rattle.cardinput.specs.Known.{FrontOf}
use Rattle.std.specs.Io.KnownBytes.{Appends}
use Rattle.cardgrade.specs.Whole.{CameAll, FirstOf}

-- the word count is always wanted
four-wanted : (b : List ℕ) → 4 ≤ bytes_wanted b
unfolding bytes_wanted
four-wanted b = of (ltb (length b) 4 || ltb max_words (word_count b)) (4 * word_count b) (4 * (max_vector_words + 1))
  where
    of : (t : Bool) (m n : ℕ) → 4 ≤ choose t 4 (4 + m + n)
    of true m n = omega arith
    of false m n = omega arith

-- the first n bytes of w, where those that decide are among them
front-told : (w : List ℕ) (n : ℕ) → bytes_wanted (take 4 w) ≤ n → text_of (take n w) ≡ text_of w
front-told w n h =
    let four = four-wanted (take 4 w) in
    let counted : take 4 (take n w) ≡ take 4 w = take-take 4 n w (omega arith) in
    let decide = take-take (bytes_wanted (take 4 w)) n w h in
    sym (text-front (take n w)) ∙ ap text_of (ap (λ x. take (bytes_wanted x) (take n w)) counted ∙ decide) ∙ text-front w

pub whole-input : (w b : List ℕ) (s : Source) → CameAll b (Ok s) → FirstOf w b s → text_of (take s.handed b) ≡ text_of w
whole-input w b s came first = ap text_of first.bytes ∙ elim (dec_lt s.handed (bytes_wanted (take 4 b))) [
  | yes l ↦ ap text_of (take_all s.handed w (first.end (came.1 l)))
  | no m ↦
      let four = four-wanted (take 4 b) in
      let counted = shorter-fronts 4 s.handed b w (omega arith) first.bytes in
      front-told w s.handed (rw (← counted) (omega arith))
]

-- where the reader's bytes were known, nothing is trusted
pub first-of : (w b : List ℕ) (left : Option (List ℕ)) (s : Source) → FrontOf (Some w) left s b → FirstOf w b s
first-of w b None s front = absurd front.1
first-of w b (Some ys) s front =
    let long : length (take s.handed b) ≡ s.handed = length-take-le s.handed b front.0 in
    let behind = take-append-le s.handed (take s.handed b) ys (omega arith) in
    let same = ap (take s.handed) front.1 ∙ behind ∙ take-take s.handed s.handed b (omega arith) in
    record { bytes = sym same; end = λ e. omega (arith, ap length front.1, length-append (take s.handed b) ys, ap length (front.2 e)) }

-- what a reader had before its first read, where that is known
pub had : (known left : Option (List ℕ)) (b : List ℕ) (s : Source) → FrontOf known left s b → IfSome known (λ w. FirstOf w b s)
had None left b s front = search rules
had (Some w) left b s front = first-of w b left s front

-- before the first read nothing is taken
pub at-start : (known : Option (List ℕ)) (b : List ℕ) (s : Source) → s.handed ≡ 0 → s.last ≡ Bytes 0 → FrontOf known known s b
at-start None b s h l = (omega arith, tt, λ e. cc)
at-start (Some w) b s h l = (omega arith, rw h refl, λ e. cc)

-- THE TEXT WRITTEN is that of all that the reader had
pub all-written : (known old new : Option (List ℕ)) (b : List ℕ) (s : Source) → CameAll b (Ok s) → IfSome known (λ w. FirstOf w b s)
    → Appends old new (text_of (take s.handed b)) → IfSome known (λ w. Appends old new (text_of w))
all-written None old new b s came first written = search rules
all-written (Some w) old new b s came first written = subst (Appends old new) (whole-input w b s came first) written
