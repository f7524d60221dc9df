use Rattle.std.proofs.Common.{◌∙◌, ◌*◌, ◌+◌, ◌<◌, ◌≤◌, length, ap, sym, arith}
use Rattle.std.specs.Prelude.{slice_index}
use Rattle.std.specs.Int.{w16}
use Rattle.lan_bytes.specs.Numbers.{number_at}
use Rattle.lan_bytes.specs.Placed.{Placed}
use Rattle.lan_mini.specs.Cutting.{level_list}
use Rattle.lan_mini.specs.declared.levels.Levels.{Levels}
use Rattle.lan_mini.proofs.Lists.{number_within, number_past, zero_at}
use Rattle.lan_mini.proofs.levels.Levels.at.Goals as goal

pub returns-in-Some : goal.returns-in-Some
returns-in-Some c = λ n.
    let bs = c.in-Stored.bytes.now in
    let i = c.args.i in
    let size = ap (λ (p : Placed). length p.bytes) c.new.ensures in
    let le : 2 * i + 2 ≤ length bs = omega (arith, c.in-Some.ensures.within) in
    c.in-Some.ensures.some ∙ ap (λ (p : Placed). number_at w16 p.bytes (2 * i)) c.new.ensures ∙ sym (number_within bs i le) ∙ sym (ap (λ (l : Levels). slice_index (level_list n l) i) c.in-Stored.is)

pub returns-in-None : goal.returns-in-None
returns-in-None c = λ n.
    let bs = c.in-Stored.bytes.now in
    let i = c.args.i in
    let size = ap (λ (p : Placed). length p.bytes) c.new.ensures in
    let gt : length bs < 2 * i + 2 = omega (arith, c.in-None.ensures.none) in
    sym (number_past bs i gt) ∙ sym (ap (λ (l : Levels). slice_index (level_list n l) i) c.in-Stored.is)

pub returns-in-Zero : goal.returns-in-Zero
returns-in-Zero c = λ n. sym (zero_at n c.args.i) ∙ sym (ap (λ (l : Levels). slice_index (level_list n l) c.args.i) c.in-Zero.is)
