use Rattle.serde_json.specs.View.{view, members_view}
use Rattle.lan_form.proofs.Below.{item_found}
use Rattle.lan_form.proofs.reading.item_of.Goals as goal

pub returns : goal.returns
returns c =
    let found = item_found c.get.result (view c.args.value.now) (members_view c.args.members.now.entries) c.get.ensures c.requires in
    record { none = found.0; some = found.1; less_deep = found.2 }
