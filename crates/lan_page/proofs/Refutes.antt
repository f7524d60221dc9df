-- Where a reason stands, no page is held.
use Rattle.std.proofs.Common.{◌≡◌, ℕ, suc, ◌+◌, ◌-◌, ◌≤◌, List, [], ◌∷◌, Option, Some, None, length, inl, inr, ap, subst, sym, ◌∙◌, refl, arith}
use Rattle.std.specs.Prelude.{IsSomeAnd}
use Rattle.lan_model.specs.declared.range.Range.{Range}
use Rattle.lan_model.specs.Leaves.{PlainLeaf}
use Rattle.lan_levels.specs.Offsets.{place_at, AreOffsets}
use Rattle.lan_levels.specs.PlainSlots.{PlainSlot}
use Rattle.lan_levels.specs.declared.shape.ValueKind.{ValueKind}
use Rattle.lan_index.specs.declared.fault.IndexFault.{IndexFault}
use Rattle.lan_index.specs.declared.fault.IndexFault.TheVariants as fault
use Rattle.lan_index.specs.Refusals.{OffsetsStand}
use Rattle.lan_meta.specs.declared.page.Layout.{Layout}
use Rattle.lan_meta.specs.declared.page.Layout.TheVariants.{Constant, Mini, Zip}
use Rattle.lan_meta.specs.declared.page.PageMeta.{PageMeta}
use Rattle.lan_meta.specs.PageOf.{buffers_in}
use Rattle.lan_meta.specs.PageRules.{EndBefore, buffers_of}
use Rattle.lan_meta.specs.Stage.{IsStaged}
use Rattle.lan_page.specs.declared.fault.PageReason.TheVariants.{Missing, Short, Index, Content, Zip as ZipReason, Start, Rows}
use Rattle.lan_page.specs.Asking.{PassesEnd, HasSome, FailsIndex, IsFullZip, part_held}
use Rattle.lan_page.specs.Held.{bytes_held, HasBuffers, HoldsPage}
use Rattle.lan_page.specs.Laws.{ReasonsRefute}
use Rattle.lan_page.proofs.ConstantPieces.{few_buffers}
use Rattle.lan_page.proofs.PageLemmas.{offsets_are}

-- places that are none are no index
offsets_none : (rows content : ℕ) (places : List ℕ) (f : IndexFault) → OffsetsStand rows content places f → AreOffsets rows content places → ⊥
offsets_none rows content places fault.Length h o = h o.size
offsets_none rows content places fault.Slots h o = h
offsets_none rows content places fault.Size h o = h
offsets_none rows content places fault.Rows h o = h
offsets_none rows content places (fault.Lead n) h o = h
offsets_none rows content places (fault.Falling n) h o =
    let within = h.within in
    elim h.falls [
      | inl first ↦ first.1 o.first
      | inr later ↦
          let some = later.0 in
          let falls = later.1 in
          let last : n - 1 + 1 ≡ n = omega arith in
          let rise = o.rises (n - 1) (omega arith) in
          let same = ap (λ (k : ℕ). place_at places k) last in
          omega arith
    ]
offsets_none rows content places fault.End h o = h.other o.last

passes_none : (bytes : List ℕ) (bs : List Range) (place : ℕ) → PassesEnd bytes bs place → EndBefore (length bytes) bs → ⊥
passes_none bytes [] place h e = h
passes_none bytes (b ∷ bs) place (inl h) e = let at = e 0 b (omega arith) in let past = h.1 in omega arith
passes_none bytes (b ∷ bs) place (inr h) e = passes_none bytes bs place h (λ k d less. e (suc k) d (omega arith))

short_none : (held : Option (List ℕ)) (bs : List Range) (place : ℕ) → IsSomeAnd held (λ bytes. PassesEnd bytes bs place) → HasBuffers held bs → ⊥
short_none None bs place h b = h
short_none (Some bytes) [] place h b = h
short_none (Some bytes) (x ∷ bs) place h b = passes_none bytes (x ∷ bs) place h b

missing_none : (held : Option (List ℕ)) (bs : List Range) → held ≡ None → HasSome bs → HasBuffers held bs → ⊥
missing_none None [] e s b = s
missing_none None (x ∷ bs) e s b = b
missing_none (Some bytes) bs e s b = cc

index_none : (leaf : PlainLeaf) (page : PageMeta) (held : Option (List ℕ)) (slots : List PlainSlot) (f : IndexFault) (place : ℕ) (codes : List ℕ) (count : ℕ) (values : ValueKind) (bs : List Range) → page.layout ≡ Zip codes count values → page.buffers ≡ bs → length bs ≤ 2
    → FailsIndex page.rows bs (buffers_in (bytes_held held) bs) f place → HoldsPage leaf page held slots → ⊥
index_none leaf page held slots f place codes count values [] e b few h p = h
index_none leaf page held slots f place codes count values (x ∷ []) e b few h p = h
index_none leaf page held slots f place codes count values (x ∷ y ∷ []) e b few h p =
    let are = offsets_are leaf page held codes count values x y slots (record { layout = e; buffers = b }) p in
    offsets_none page.rows x.len (part_held held y) f h.0 are.1
index_none leaf page held slots f place codes count values (x ∷ y ∷ z ∷ bs) e b few h p = absurd (omega arith)

no_index : (page : PageMeta) (held : Option (List ℕ)) (f : IndexFault) (place : ℕ) (bs : List Range) → length bs ≡ 0 → FailsIndex page.rows bs (buffers_in (bytes_held held) bs) f place → ⊥
no_index page held f place [] e h = h
no_index page held f place (x ∷ bs) e h = absurd (omega arith)

pub reasons_refute : ReasonsRefute
reasons_refute leaf page held slots Missing place k h p = missing_none held page.buffers h.0 h.1 p.has
reasons_refute leaf page held slots Short place k h p = short_none held page.buffers place h p.has
reasons_refute leaf page held slots (Index f) place k h p = index_by page.layout refl where
  index_by : (layout : Layout) → page.layout ≡ layout → ⊥
  index_by (Constant codes count value) e = no_index page held f place page.buffers (k.buffers ∙ ap (λ (l : Layout). buffers_of l leaf.layers) e) h
  index_by (Mini codes count values) e = subst IsStaged e k.staged
  index_by (Zip codes count values) e = index_none leaf page held slots f place codes count values page.buffers e refl (few_buffers page leaf.layers (subst IsFullZip (sym e) tt) k.buffers) h p
reasons_refute leaf page held slots (Content n) place k h p = h
reasons_refute leaf page held slots (ZipReason f) place k h p = h
reasons_refute leaf page held slots Start place k h p = h
reasons_refute leaf page held slots Rows place k h p = h
