use Rattle.std.proofs.Common.{◌≡◌, ◌+◌, ◌++◌, ℕ, List, drop, get_or, map, pos, ap, sym, ◌∙◌, append_assoc, arith, rules}
use Rattle.std.specs.Prelude.{flat_map}
use Rattle.std.specs.Int.{w32}
use Rattle.std.proofs.lemmas.Grind.{common_steps}
use Rattle.std.proofs.lemmas.Int.{to_z-of_z}
use Rattle.lan_wire.specs.Spelling.{varint, two_complement}
use Rattle.lan_wire.proofs.Varints.{signed_drop}
use Rattle.lan_wire.proofs.writer.push_signed_varints.Goals as goal

pub loop-value-preserved : goal.loop-value-preserved
loop-value-preserved c =
    let at = c.loop-value.value-index in
    let zs = c.args.values.now in
    let items = c.loop-value.bytes.items in
    let rest : List ℕ = flat_map varint (map two_complement (drop (at + 1) zs)) in
    let here : c.two_complement.result ≡ two_complement (get_or zs at (pos 0)) =
    c.two_complement.ensures ∙ ap two_complement (to_z-of_z w32 (get_or zs at (pos 0)) (search rules)) in
    record {
      spelled = ap (λ (bytes : List ℕ). bytes ++ rest) c.in_ok-push_varint.ensures.ok
          ∙ append_assoc items (varint c.two_complement.result) rest
          ∙ ap (λ (n : ℕ). items ++ (varint n ++ rest)) here
          ∙ ap (λ (bytes : List ℕ). items ++ bytes) (sym (signed_drop zs at c.loop-value-test.true))
          ∙ c.loop-value.invariant.spelled;
      front = let was = c.loop-value.invariant.front in let more = c.in_ok-push_varint.ensures.ok in grind (arith, common_steps);
    }
