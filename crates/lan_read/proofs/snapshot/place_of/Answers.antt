use Rattle.std.proofs.Common.{◌≡◌, ◌∙◌, ◌+◌, ap₂, subst, ℕ}
use Rattle.std.specs.Prelude.{IfNone, IfSome}
use Rattle.lan_bytes.specs.Placed.{Placed}
use Rattle.lan_manifest.specs.Frame.{IsFramed, place_in}
use Rattle.lan_read.specs.Opening.{place_among}
use Rattle.lan_read.proofs.OpenedVersions.{placed_fault}
use Rattle.lan_read.proofs.snapshot.place_of.Goals as goal

pub returns : goal.returns
returns c = λ version refuses.
    let Found : Placed → Type 0 = λ o. IfSome c.message_place.result (λ place. place ≡ o.base + (place_in o.bytes + 4)) in
    let NotFound : Placed → Type 0 = λ o. IfNone c.message_place.result ((message : Placed) → IsFramed o message → ⊥) in
    c.place_among.ensures
    ∙ ap₂ (λ (size message : ℕ). place_among size message c.args.fault.now) c.len.ensures.value c.unwrap_or-message.ensures
    ∙ placed_fault c.args.object.now version c.args.fault.now c.message_place.result c.requires.front (subst Found c.again.ensures c.message_place.ensures.some) (subst NotFound c.again.ensures c.message_place.ensures.none) c.requires.no_want refuses
