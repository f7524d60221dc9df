use Rattle.std.proofs.Common.{◌∙◌, ap, w32, List, [], Option, rules}
use Rattle.std.specs.Prelude.{unwrap_or, reverse}
use Rattle.std.specs.Ordering.{int_cmp}
use Rattle.std.specs.BTreeMap.{get}
use Rattle.std.proofs.lemmas.Int.{to_z-of_z}
use Rattle.lan_model.specs.declared.tree.Field.{Field}
use Rattle.lan_model.specs.Plain.{plain_fields}
use Rattle.lan_schema.proofs.building.taken.Goals as goal

pub returns-in-Some-clause-value : goal.returns-in-Some-clause-value
returns-in-Some-clause-value c =
    let found = c.in-Some.ensures.value ∙ ap (get int_cmp c.args.built.now) (to_z-of_z w32 c.args.parent (search rules)) in
    ap plain_fields (c.from_vec.ensures ∙ c.reverse.ensures.items ∙ ap reverse (c.into_vec-fields.ensures ∙ ap (λ (o : Option (List Field)). unwrap_or o []) found))

pub returns-in-None-clause-value : goal.returns-in-None-clause-value
returns-in-None-clause-value c =
    let found = c.in-None.ensures.value ∙ ap (get int_cmp c.args.built.now) (to_z-of_z w32 c.args.parent (search rules)) in
    ap plain_fields (c.new.ensures ∙ ap (λ (o : Option (List Field)). reverse (unwrap_or o [])) found)
