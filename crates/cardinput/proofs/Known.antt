-- What a read takes from a reader whose bytes are known, and where it puts it. Assumes nothing.
use Rattle.std.proofs.Common.{◌≡◌, ℕ, zero, suc, ◌+◌, ◌<◌, ◌≤◌, List, [], ◌++◌, length, take, Option, None, Some, Result, Ok, Err, sym, ap, ◌∙◌, refl, subst, append_assoc, arith}
use Rattle.std.proofs.lemmas.List.{take-take, append-nil, length-take-le}
use Rattle.std.proofs.lemmas.Slice.{take-put_mid, take-put_mid_below}
use Rattle.std.proofs.Math.Seq.{take-append-add}
use Rattle.std.specs.Io.{ReadsAtMost}
use Rattle.std.specs.Io.KnownBytes.{Consumes, Keeps, ReadConsumes}
use Rattle.std.specs.declared.io.Error.{Error}
use Rattle.cardinput.specs.declared.reads.Source.{Source}
use Rattle.cardinput.specs.Reads.{told_by}
use Rattle.cardinput.specs.Known.{FrontOf}
use borrow.Rule.Slice.PartMut.{put_mid}

-- what is taken in two steps, and in a step after which all is kept
taken-twice : (known left rest : Option (List ℕ)) (bs ds : List ℕ) → Consumes known left bs → Consumes left rest ds → Consumes known rest (bs ++ ds)
taken-twice None left rest bs ds h k = tt
taken-twice (Some xs) None rest bs ds h k = absurd h
taken-twice (Some xs) (Some ys) None bs ds h k = absurd k
taken-twice (Some xs) (Some ys) (Some zs) bs ds h k = h ∙ ap (λ l. bs ++ l) k ∙ sym (append_assoc bs ds zs)

taken-kept : (known left rest : Option (List ℕ)) (bs : List ℕ) → Consumes known left bs → Keeps left rest → Consumes known rest bs
taken-kept None left rest bs h k = tt
taken-kept (Some xs) None rest bs h k = absurd h
taken-kept (Some xs) (Some ys) None bs h k = absurd k
taken-kept (Some xs) (Some ys) (Some zs) bs h k = h ∙ ap (λ l. bs ++ l) (sym k)

-- the front of a buffer whose part from n on was read into, up to the j bytes that were read
front-read : (n k j : ℕ) (xs ys : List ℕ) → n ≤ length xs → j ≤ length ys → take (n + j) (put_mid n k xs ys) ≡ take n xs ++ take j ys
front-read n k j xs ys h l =
    let whole : take (n + length ys) (put_mid n k xs ys) ≡ take n xs ++ ys = take-put_mid n k xs ys (n + length ys) refl h in
    let less : n + j ≤ n + length ys = omega arith in
    let front : length (take n xs) ≡ n = length-take-le n xs h in
    sym (take-take (n + j) (n + length ys) (put_mid n k xs ys) less) ∙ ap (take (n + j)) whole
    ∙ ap (λ m. take (m + j) (take n xs ++ ys)) (sym front) ∙ take-append-add (take n xs) ys j

pub read-front : (s : Source) (k : ℕ) (xs ys : List ℕ) (r : Result ℕ Error) (left rest : Option (List ℕ)) → s.handed + length ys ≤ length xs
    → length (put_mid s.handed k xs ys) ≡ length xs → 0 < length ys → ReadsAtMost r ys → ReadConsumes left rest r ys → (known : Option (List ℕ))
    → FrontOf known left s xs → FrontOf known rest (told_by s.handed r) (put_mid s.handed k xs ys)
read-front s k xs ys (Ok zero) left rest h same room most gave known front =
    let within : s.handed ≤ length xs = omega arith in (
      omega (arith, same),
      rw (take-put_mid_below s.handed k xs ys s.handed (omega arith) within)
          (subst (Consumes known rest) (append-nil (take s.handed xs)) (taken-twice known left rest (take s.handed xs) [] front.1 gave.0)),
      λ e. gave.1 refl room,
    )
read-front s k xs ys (Ok (suc j)) left rest h same room most gave known front =
    let within : s.handed ≤ length xs = omega arith in
    (omega (arith, same, most.0), rw (front-read s.handed k (suc j) xs ys within most.0) (taken-twice known left rest (take s.handed xs) (take (suc j) ys) front.1 gave.0), λ e. cc)
read-front s k xs ys (Err e) left rest h same room most gave known front =
    let within : s.handed ≤ length xs = omega arith in
    (omega (arith, same), rw (take-put_mid_below s.handed k xs ys s.handed (omega arith) within) (taken-kept known left rest (take s.handed xs) front.1 gave), λ e. cc)
