-- Fields within the limits are few enough for their numbers.
use Rattle.std.proofs.Common.{◌≡◌, sym, ap, ◌∙◌, subst, ◌^◌, ◌<◌, List, length, map, arith}
use Rattle.std.specs.Prelude.{Ok}
use Rattle.lan_model.specs.declared.tree.Field.{Field}
use Rattle.lan_model.specs.Plain.{plain_fields, all_unnumbered}
use Rattle.lan_model.specs.PlainTable.{column_of}
use Rattle.lan_model.specs.Table.{AreFields, all_depths}
use Rattle.lan_form.specs.Limits.{are_shallow, within}
use Rattle.lan_form.specs.Numbers.{all_in}
use Rattle.lan_form.proofs.Depths.{columns_are, all_depths_are}
use Rattle.lan_form.proofs.Few.{few_fields}
use Rattle.lan_form.proofs.Formed.{AreGood, limits_ok}

pub fields_are_few : (fs : List Field) → AreGood (map column_of fs) → within (map column_of fs) ≡ Ok (map column_of fs) → all_in (plain_fields fs) < 2 ^ 31
fields_are_few fs good is =
    let same = columns_are fs in
    let limits = limits_ok (map column_of fs) is in
    few_fields (plain_fields fs) (subst AreFields same good.1) (ap (λ all. are_shallow (all_depths all 0)) (sym same) ∙ limits.0)
    (omega (arith, limits.1, ap (λ all. length (all_depths all 0)) same, all_depths_are (all_unnumbered (plain_fields fs)) 0))
