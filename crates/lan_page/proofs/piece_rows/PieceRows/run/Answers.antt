use Rattle.std.proofs.Common.{◌≡◌, ℕ, ◌+◌, ◌-◌, ◌≤◌, ◌∙◌, List, [], ◌∷◌, ◌++◌, take, drop, sym, ap, ap₂, subst, arith}
use Rattle.std.proofs.lemmas.List.{map-append}
use Rattle.lan_levels.specs.PlainSlots.{PlainSlot, plain_slot, plain_slots}
use Rattle.lan_index.proofs.RowSlots.{before_le}
use Rattle.lan_index.proofs.ZipPlaces.{before_within}
use Rattle.lan_zip.proofs.Gathering.{range_more}
use Rattle.lan_page.specs.PieceRows.{PlainRows, slots_at_hand}
use Rattle.lan_page.proofs.piece_rows.PieceRows.run.Goals as goal

pub overflow_sub-count : goal.overflow_sub-count
overflow_sub-count c =
    let i = c.self.invariant in
    let p = c.self.inside in
    let begin = i.begin_is in
    let end = i.end_is in
    let order = before_le p.lists (p.row - p.from) (p.row - p.from + 1) p.slots (omega arith) in
    omega arith

pub slot-requires : goal.slot-requires
slot-requires c =
    let p = c.self.inside in
    let end = c.self.invariant.end_is in
    let fits = before_within p.lists (p.row - p.from + 1) p.slots in
    omega arith

pub loop-i-preserved : goal.loop-i-preserved
loop-i-preserved c =
    let p = c.self.inside in
    let begin : p.begin ≤ c.loop-i.i = omega arith in
    let grew : c.push.new.self ≡ c.loop-i.slots ++ c.slot.result ∷ [] = c.in_ok-push.ensures.ok in
    ap plain_slots grew
    ∙ map-append plain_slot c.loop-i.slots (c.slot.result ∷ [])
    ∙ ap (λ (xs : List PlainSlot). xs ++ plain_slot c.slot.result ∷ []) c.loop-i.invariant
    ∙ sym (range_more p.slots p.begin c.loop-i.i (plain_slot c.slot.result) begin c.slot.ensures)

pub returns-clause-slots : goal.returns-clause-slots
returns-clause-slots c =
    let p = c.self.inside in
    let i = c.self.invariant in
    let begin = i.begin_is in
    let end = i.end_is in
    let order = before_le p.lists (p.row - p.from) (p.row - p.from + 1) p.slots (omega arith) in
    let last : c.loop-i.i ≡ p.end = omega arith in
    subst (λ (r : PlainRows). plain_slots c.loop-i.slots ≡ slots_at_hand r) c.self.view_is
    (c.loop-i.invariant ∙ ap (λ (n : ℕ). take (n - p.begin) (drop p.begin p.slots)) last ∙ ap₂ (λ (a b : ℕ). take (b - a) (drop a p.slots)) begin end)
