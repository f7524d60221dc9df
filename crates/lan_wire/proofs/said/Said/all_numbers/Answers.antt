use Rattle.std.proofs.Common.{List, ℕ, ◌++◌, ap, ◌∙◌}
use Rattle.lan_wire.specs.declared.item.Item.{Item}
use Rattle.lan_wire.specs.Values.{items_of, nums_under}
use Rattle.lan_wire.proofs.NumberLists.{no_bytes_no_numbers}
use Rattle.lan_wire.proofs.said.Said.all_numbers.Goals as goal

pub returns : goal.returns
returns c =
    ap (λ (ns : List ℕ). ns ++ nums_under c.args.number (items_of c.fields.result)) no_bytes_no_numbers
    ∙ ap (λ (items : List Item). nums_under c.args.number items) c.fields.ensures.same
