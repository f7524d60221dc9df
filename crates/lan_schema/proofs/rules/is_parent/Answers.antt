use Rattle.std.proofs.Common.{◌∙◌, ◌||◌, ap, sym, w32, rules}
use Rattle.std.specs.Prelude.{negsuc}
use Rattle.std.specs.Int.{cast_unsigned}
use Rattle.std.specs.Ordering.{int_cmp}
use Rattle.std.specs.BTreeSet.{contains}
use Rattle.std.proofs.lemmas.Int.{to_z-of_z}
use Rattle.lan_schema.proofs.ForestLaws.{same_other}
use Rattle.lan_schema.proofs.rules.is_parent.Goals as goal

pub returns : goal.returns
returns c =
    c.contains.ensures
    ∙ ap (contains int_cmp c.args.seen.now) (to_z-of_z w32 c.args.parent (search rules))
    ∙ sym (ap (λ b. b || contains int_cmp c.args.seen.now c.args.parent) (same_other c.args.parent (negsuc 0) (λ e. c.if-parent.false (ap (cast_unsigned w32) e))))
