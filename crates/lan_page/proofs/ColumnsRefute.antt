-- Where a reason stands in a page of a column, the column isn't held.
use Rattle.std.proofs.Common.{◌≡◌, ℕ, zero, suc, ◌-◌, ◌<◌, ◌≤◌, List, [], ◌∷◌, Option, refl, subst, arith}
use Rattle.std.specs.Prelude.{All, Contains}
use Rattle.lan_model.specs.Leaves.{PlainLeaf}
use Rattle.lan_levels.specs.PlainSlots.{PlainSlot}
use Rattle.lan_levels.specs.SlotsOf.{lists_in}
use Rattle.lan_levels.specs.Stretch.{bytes_in, cover}
use Rattle.lan_levels.specs.ZipRows.{slots_of_rows}
use Rattle.lan_zip.specs.declared.fault.ZipFault.{ZipFault}
use Rattle.lan_zip.proofs.Rows.{refused}
use Rattle.lan_meta.specs.declared.page.Layout.{Layout}
use Rattle.lan_meta.specs.declared.page.Layout.TheVariants.{Constant, Mini, Zip}
use Rattle.lan_meta.specs.declared.page.PageMeta.{PageMeta}
use Rattle.lan_meta.specs.PageKeeps.{KeepsRules}
use Rattle.lan_meta.specs.PageOf.{page_form, LaidOut}
use Rattle.lan_page.specs.declared.fault.PageReason.{PageReason}
use Rattle.lan_page.specs.declared.fault.PageReason.TheVariants.{Missing, Short, Index, Content, Zip as ZipReason, Start, Rows}
use Rattle.lan_page.specs.Columns.{HoldsPages, RowsReasonStands}
use Rattle.lan_page.specs.Giving.{FailsZip}
use Rattle.lan_page.specs.Held.{bytes_held, held_buffers, held_run, first_of, HoldsPage}
use Rattle.lan_page.specs.Laws.{ColumnsRefute}
use Rattle.lan_page.proofs.PageLemmas.{rows_zip}
use Rattle.lan_page.proofs.PageRows.{first_rules, later_rules}
use Rattle.lan_page.proofs.Refutes.{reasons_refute}
use Rattle.lan_page.proofs.SlotLemmas.{form_some, some_buffer}

record OnePage (leaf : PlainLeaf) (page : PageMeta) (held : Option (List ℕ)) : Type 0 where
  rules : KeepsRules leaf page
  slots : List PlainSlot
  holds : HoldsPage leaf page held slots

one_page : (leaf : PlainLeaf) (pages : List PageMeta) (held : Option (List ℕ)) (all : List PlainSlot) (page : PageMeta) → All (KeepsRules leaf) pages → HoldsPages leaf pages held all → Contains pages page → OnePage leaf page held
one_page leaf [] held all page rules h (k, less, e) = absurd (omega arith)
one_page leaf (p ∷ pages) held all page rules (first, later, whole, here, rest) (zero, less, e) =
    record { rules = subst (KeepsRules leaf) e (first_rules leaf p pages rules); slots = first; holds = subst (λ (q : PageMeta). HoldsPage leaf q held first) e here }
one_page leaf (p ∷ pages) held all page rules (first, later, whole, here, rest) (suc k, less, e) = one_page leaf pages held later page (later_rules leaf p pages rules) rest (k, omega arith, e)

part_by : (leaf : PlainLeaf) (page : PageMeta) (held : Option (List ℕ)) (slots : List PlainSlot) (fault : ZipFault) (row past : ℕ) (layout : Layout) → page.layout ≡ layout → HoldsPage leaf page held slots → row < past → past ≤ page.rows
    → FailsZip leaf layout (past - row) (bytes_in (first_of (held_buffers page held)) (cover (held_run leaf page held) row past)) fault → ⊥
part_by leaf page held slots fault row past (Constant codes count value) e h less le f = f
part_by leaf page held slots fault row past (Mini codes count values) e h less le f = f
part_by leaf page held slots fault row past (Zip codes count values) e h less le f =
    let laid = subst (λ (l : Layout). LaidOut leaf page.rows l (held_buffers page held) slots) e h.stands.laid in
    let some = some_buffer (page_form leaf codes values) page.rows (bytes_held held) slots page.buffers laid in
    let bytes = bytes_in (first_of (held_buffers page held)) (cover (held_run leaf page held) row past) in
    refused (page_form leaf codes values) (past - row) bytes fault (slots_of_rows (lists_in leaf.layers) row past slots) (form_some leaf codes values) f
    (rows_zip leaf page held codes count values some.0 some.1 (record { layout = e; buffers = some.2 }) slots row past bytes h less le refl)

page_refuted : (leaf : PlainLeaf) (page : PageMeta) (held : Option (List ℕ)) (slots : List PlainSlot) (why : PageReason) (place : ℕ) → KeepsRules leaf page → RowsReasonStands leaf page held why place → HoldsPage leaf page held slots → ⊥
page_refuted leaf page held slots Missing place k h p = reasons_refute leaf page held slots Missing place k h p
page_refuted leaf page held slots Short place k h p = reasons_refute leaf page held slots Short place k h p
page_refuted leaf page held slots (Index f) place k h p = reasons_refute leaf page held slots (Index f) place k h p
page_refuted leaf page held slots (Content n) place k h p = h
page_refuted leaf page held slots (ZipReason f) place k h p = part_by leaf page held slots f h.row h.past page.layout refl p h.some h.within h.fails
page_refuted leaf page held slots Start place k h p = h
page_refuted leaf page held slots Rows place k h p = h

pub columns_refute : ColumnsRefute
columns_refute leaf pages held slots why place rules h p =
    let one = one_page leaf pages held slots h.page rules p h.is_one in
    page_refuted leaf h.page held one.slots why place one.rules h.stands one.holds
