use Rattle.std.proofs.Common.{◌≡◌, List, ℕ, Bool, true, false, cond, Ok, Err, Result, refl, sym, ap, ◌∙◌}
use Rattle.std.specs.Str.{is_utf8}
use Rattle.std.proofs.lemmas.Str.{is_utf8-from_IsUtf8, IsUtf8-from_is_utf8}
use Rattle.lan_bytes.specs.Placed.{Placed}
use Rattle.lan_wire.specs.declared.item.Item.{Item}
use Rattle.lan_wire.specs.declared.item.WireFault.{WireFault}
use Rattle.lan_wire.specs.declared.item.WireKind.TheVariants.{NotText}
use Rattle.lan_wire.specs.Readers.{then_read, placed_of, text_of}
use Rattle.lan_wire.proofs.item.Item.text.Goals as goal

not_true : (b : Bool) → (b ≡ true → ⊥) → b ≡ false
not_true true h = absurd (h refl)
not_true false h = refl

abbrev judged : Item → Bool → Placed → Result (List ℕ) WireFault
judged item b part = cond b (Ok part.bytes) (Err (record { kind = NotText item.number; at = item.at }))

text_by : (item : Item) (part : Placed) → Ok part ≡ placed_of item → text_of item ≡ judged item (is_utf8 part.bytes) part
text_by item part e = ap (then_read (λ (p : Placed). judged item (is_utf8 p.bytes) p)) (sym e)

abbrev no_text : WireFault → Result (List ℕ) WireFault
no_text fault = Err fault

pub returns-in-Ok : goal.returns-in-Ok
returns-in-Ok c =
    let item = c.args.self.now in
    let part = c.in_ok-part.part in
    let h = c.in-Ok.ensures.cases in
    let bytes = h.0 ∙ c.bytes.ensures.value in
    text_by item part c.in_ok-part.ensures ∙ ap (λ (b : Bool). judged item b part) (ap is_utf8 (sym c.bytes.ensures.value) ∙ is_utf8-from_IsUtf8 c.bytes.result.now h.1) ∙ ap (λ (t : List ℕ). Ok t) (sym bytes)

pub returns-in-Err : goal.returns-in-Err
returns-in-Err c =
    let item = c.args.self.now in
    let part = c.in_ok-part.part in
    let h = c.in-Err.ensures.cases in
    text_by item part c.in_ok-part.ensures ∙ ap (λ (b : Bool). judged item b part) (ap is_utf8 (sym c.bytes.ensures.value) ∙ not_true (is_utf8 c.bytes.result.now) (λ t. h.0 (IsUtf8-from_is_utf8 c.bytes.result.now t))) ∙ ap no_text (sym c.fault.ensures)
