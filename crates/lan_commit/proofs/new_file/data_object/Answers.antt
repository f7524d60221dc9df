use Rattle.std.proofs.Common.{◌≡◌, ◌<◌, ◌^◌, ◌∙◌, List, sym, subst, length, map}
use Rattle.std.specs.Prelude.{All, sum_by}
use Rattle.lan_meta.specs.declared.page.BuiltPage.{BuiltPage}
use Rattle.lan_model.specs.Plain.{plain_field, plain_fields, values_from}
use Rattle.lan_store.specs.declared.name.Dir.TheVariants.{Data}
use Rattle.lan_file.specs.FileText.{file_text}
use Rattle.lan_commit.specs.ChangePuts.{rows_text}
use Rattle.lan_commit.specs.NewRows.{kept_of}
use Rattle.lan_commit.proofs.BuiltRows.{can_be_built, counted_built, few_built, rows_built}
use Rattle.lan_commit.proofs.new_file.data_object.Goals as goal

pub build-requires : goal.build-requires
build-requires c = can_be_built (map plain_field c.args.fields.now) c.requires.rows.0 (kept_of c.args.rows.now) c.requires.rows.1

pub write_file-requires-clause-few : goal.write_file-requires-clause-few
write_file-requires-clause-few c =
    let fields = map plain_field c.args.fields.now in
    let is = c.in_ok-columns.ensures ∙ rows_built fields c.requires.rows.0 (kept_of c.args.rows.now) c.requires.rows.1 in
    subst (λ (cs : List (List BuiltPage)). length cs < 2 ^ 32) (sym is) (few_built fields (map values_from c.requires.rows.0) c.requires.columns)

pub write_file-requires-clause-counted : goal.write_file-requires-clause-counted
write_file-requires-clause-counted c =
    let fields = map plain_field c.args.fields.now in
    let is = c.in_ok-columns.ensures ∙ rows_built fields c.requires.rows.0 (kept_of c.args.rows.now) c.requires.rows.1 in
    subst (λ (cs : List (List BuiltPage)). All (λ (pages : List BuiltPage). sum_by (λ (page : BuiltPage). page.rows) pages < 2 ^ 64) cs) (sym is) (counted_built fields c.requires.rows.0 c.requires.rows.1.can)

pub returns : goal.returns
returns c list has =
    let fields = map plain_field c.args.fields.now in
    let columns = c.in_ok-columns.ensures ∙ rows_built fields list (kept_of c.args.rows.now) has in
    let count = c.len.ensures ∙ has.count in
    let bytes : c.from_vec.result ≡ rows_text fields list = c.from_vec.ensures ∙ c.in_ok-bytes.ensures ∙ (λ i. file_text (plain_fields c.args.fields.now) (count i) (columns i)) in
    λ i. record { name = record { dir = Data; rest = c.in_ok-file_path.ensures i }; bytes = bytes i }
