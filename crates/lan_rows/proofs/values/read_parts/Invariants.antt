use Rattle.std.proofs.Common.{◌≡◌, ◌++◌, ◌*◌, drop, length}
use Rattle.serde_json.specs.View.{items_view}
use Rattle.lan_model.specs.Fits.{width}
use Rattle.lan_rows.specs.Judged.{on_good, each_item}
use Rattle.lan_rows.specs.Values.{vector_item, joined}
use Rattle.lan_rows.proofs.values.read_parts.Given as goal

abbrev pub invariant-loop-item : goal.invariant-loop-item
invariant-loop-item l =
    let f = vector_item l.top l.prim in
    record {
      parts : on_good joined (each_item f (items_view l.items)) ≡ on_good (λ parts. l.bytes ++ joined parts) (each_item f (items_view (drop l.item-index l.items)));
      bits : 8 * length l.bytes ≡ width l.prim * l.item-index;
    }
