-- `joinwords::write_parts` meets its contract: one part is written after the other, by the same law. Assumes nothing.
use mathlib.Core.Path.{sym, ◌∙◌}
use mathlib.Core.List.{◌++◌}
use native.Mathlib.Omega.{arith}
use Rattle.lists.specs.Tables.{always, tab}
use Rattle.lists.proofs.Tables.{length-tab, length_over}
use Rattle.joinwords.specs.Numbers.{output_words}
use Rattle.joinwords.proofs.Written.{front-inputs, part-long, part-written, room-left}
use Rattle.joinwords.proofs.write_parts.Goals as goal

pub put_outputs-n-requires : goal.put_outputs-n-requires
put_outputs-n-requires c =
    let p = c.requires in
    (p.0, p.2, rw (c.fill.ensures, length_over (always 0) c.args.out.now c.args.start (omega (arith, p.4))) (omega (arith, p.4)))

pub put_outputs-requires : goal.put_outputs-requires
put_outputs-requires c =
    let p = c.requires in
    let a = c.args in
    let o = c.put_outputs-n.ensures in
    let room = room-left a.a.now a.kept.now a.start (tab (always 0) a.start) a.out.now (length-tab (always 0) a.start)
    (c.fill.ensures ∙ front-inputs _ _) o.0 o.1 (omega (arith, o.0, p.4)) in
    (p.1, p.3, omega (arith, room, o.0, p.4))

pub returns : goal.returns
returns c =
    let a = c.args in
    let o = c.put_outputs-n.ensures in
    let o2 = c.put_outputs.ensures in
    let zeros = tab (always 0) a.start in
    let e = c.fill.ensures ∙ front-inputs _ _ in
    let l = length-tab (always 0) a.start in
    let first = part-written a.a.now a.kept.now a.start zeros a.out.now l e o.0 o.1 in
    let long = part-long a.a.now a.kept.now a.start zeros a.out.now l e o.0 o.1 in
    let both = zeros ++ output_words a.a.now a.kept.now a.start in (
      sym (part-long a.b.now a.wired.now a.then both a.out.now long first o2.0 o2.1),
      part-written a.b.now a.wired.now a.then both a.out.now long first o2.0 o2.1,
    )
