use Rattle.std.proofs.Common.{◌∙◌, sym, rules}
use Rattle.std.proofs.lemmas.Iterator.{YieldsList-from_slice}
use Rattle.std.proofs.lemmas.Iterator.Search.{position_from_yields_List}
use Rattle.lance_cli.proofs.ColumnPlaces.{column_place, has_name, is_named}
use Rattle.lance_cli.proofs.scan.place_of.Goals as goal

pub returns-in_err-place-clause-finds : goal.returns-in_err-place-clause-finds
returns-in_err-place-clause-finds c =
    let name = c.args.name.now in
    let fields = c.args.fields.now in
    let found = position_from_yields_List (has_name name) _ _ c.position.result c.position.ensures.ran (YieldsList-from_slice fields cc) (λ x b q k. search (rules, is_named)) in
    c.from_residual.ensures ∙ sym c.in_err-place.was ∙ found ∙ column_place name fields

pub returns-clause-finds : goal.returns-clause-finds
returns-clause-finds c =
    let name = c.args.name.now in
    let fields = c.args.fields.now in
    let found = position_from_yields_List (has_name name) _ _ c.position.result c.position.ensures.ran (YieldsList-from_slice fields cc) (λ x b q k. search (rules, is_named)) in
    sym c.in_ok-place.was ∙ found ∙ column_place name fields
