-- A manifest's object has at least two bytes a fragment, and two a file.
use Rattle.std.proofs.Common.{◌≡◌, ℕ, ◌+◌, ◌*◌, ◌-◌, ◌≤◌, Bool, true, false, cond, List, [], ◌∷◌, length, take, drop, map, refl, sym, ap, subst, ◌∙◌, length-append, length-drop, arith}
use Rattle.std.specs.Prelude.{nat_eq, sum_by}
use Rattle.std.proofs.lemmas.List.{length-take, length-map}
use Rattle.std.proofs.lemmas.List.Sums.{sum_by-cons}
use Rattle.lan_bytes.specs.Placed.{Placed, part_of}
use Rattle.lan_wire.specs.declared.item.Body.{Body}
use Rattle.lan_wire.specs.declared.item.Body.TheVariants.{Num, Eight, Four, Part}
use Rattle.lan_wire.specs.declared.item.Item.{Item}
use Rattle.lan_wire.specs.Messages.{ReadEach}
use Rattle.lan_wire.specs.Spells.{SpellsBody, Items}
use Rattle.lan_wire.specs.Values.{of_number, part_before, parts_of, parts_under}
use Rattle.lan_wire.proofs.LawTerms.{few_parts}
use Rattle.lan_manifest.specs.declared.manifest.Fragment.{Fragment}
use Rattle.lan_manifest.specs.declared.said.SaidFile.{SaidFile}
use Rattle.lan_manifest.specs.declared.said.SaidFragment.{SaidFragment}
use Rattle.lan_manifest.specs.Frame.{IsFramed, place_in, length_in}
use Rattle.lan_manifest.specs.ManifestMessages.{SaysFile, SaysFragment}
use Rattle.lan_manifest.specs.ManifestObjects.{fragment_of, IsManifestObject}
use Rattle.lan_manifest.specs.Manifests.{PlainManifest}

-- ---- the messages in a message are no longer than it

abbrev sizes : List Placed → ℕ
sizes [] = 0
sizes (p ∷ ps) = length p.bytes + sizes ps

body_fits : (at : ℕ) (bytes : List ℕ) (body : Body) → SpellsBody at bytes body → sizes (part_before body []) ≤ length bytes
body_fits at bytes (Num n) s = omega arith
body_fits at bytes (Eight n) s = omega arith
body_fits at bytes (Four n) s = omega arith
body_fits at bytes (Part part) s = omega (arith, ap length s.3, length-append s.0 part.bytes)

more_parts : (body : Body) (items : List Item) → sizes (part_before body (parts_of items)) ≡ sizes (part_before body []) + sizes (parts_of items)
more_parts (Num n) items = omega arith
more_parts (Eight n) items = omega arith
more_parts (Four n) items = omega arith
more_parts (Part part) items = omega arith

parts_fit : (at : ℕ) (bytes : List ℕ) (items : List Item) (number : ℕ) → Items at bytes items → sizes (parts_under number items) ≤ length bytes
parts_fit at bytes [] number p = omega arith
parts_fit at bytes (x ∷ xs) number p = by (nat_eq x.number number) (parts_fit (at + length p.0) p.1 xs number p.5) where
  size : length bytes ≡ length p.0 + length p.1
  size = ap length p.2 ∙ length-append p.0 p.1

  item : length p.0 ≡ length p.3.key + length p.3.body
  item = ap length p.3.parts ∙ length-append p.3.key p.3.body

  here : sizes (part_before x.body []) ≤ length p.3.body
  here = body_fits (x.at + length p.3.key) p.3.body x.body p.3.is_body

  by : (b : Bool) → sizes (parts_under number xs) ≤ length p.1 → sizes (parts_of (cond b (x ∷ of_number number xs) (of_number number xs))) ≤ length bytes
  by true rest = omega (arith, here, item, rest, size, more_parts x.body (of_number number xs))
  by false rest = omega (arith, rest, size)

-- ---- fragments and files

as_many : {M : Type 0} (Say : Placed → M → Type 0) (messages : List Placed) (ms : List M) → ReadEach Say messages ms → length ms ≡ length messages
as_many {M} Say [] ms r = ap length r
as_many {M} Say (part ∷ messages) ms r = omega (arith, ap length r.2, as_many Say messages r.1 r.4)

abbrev files_in : List Fragment → ℕ
files_in fs = sum_by (λ (f : Fragment). length f.files) fs

files_few : (messages : List Placed) (fs : List SaidFragment) → ReadEach SaysFragment messages fs → 2 * files_in (map fragment_of fs) ≤ sizes messages
files_few [] fs r = subst (λ (gs : List SaidFragment). 2 * files_in (map fragment_of gs) ≤ 0) (sym r) (omega arith)
files_few (part ∷ messages) fs r =
    let f = r.0 in
    let says = r.3.0 in
    let count : length f.files ≡ length (parts_under 2 says.items) = as_many SaysFile (parts_under 2 says.items) f.files says.said.files in
    let few = few_parts part.base part.bytes says.items 2 says.reads.spelled in
    let rest = files_few messages r.1 r.4 in
    let here = length-map f.files (λ (s : SaidFile). s.file) in
    let all = sum_by-cons (λ (g : Fragment). length g.files) (fragment_of f) (map fragment_of r.1) in
    subst (λ (gs : List SaidFragment). 2 * files_in (map fragment_of gs) ≤ length part.bytes + sizes messages) (sym r.2) (omega (arith, count, few, rest, here, all))

message_short : (object message : Placed) → IsFramed object message → length message.bytes ≤ length object.bytes
message_short object message f =
    let place = place_in object.bytes + 4 in
    let len = length_in object.bytes in
    omega (arith, ap (λ (p : Placed). length p.bytes) f.is, length-take len (drop place object.bytes), length-drop place object.bytes)

pub few_fragments : (object : Placed) (version : ℕ) (m : PlainManifest) → IsManifestObject object version m → 2 * length m.fragments ≤ length object.bytes
few_fragments object version m o =
    let says = o.stands.said in
    let messages = parts_under 2 says.items in
    let count = as_many SaysFragment messages o.stands.whole.fragments says.said.fragments in
    let mapped = ap length o.stands.fragments ∙ length-map o.stands.whole.fragments fragment_of in
    omega (arith, count, mapped, few_parts o.message.base o.message.bytes says.items 2 says.reads.spelled, message_short object o.message o.framed)

pub few_files : (object : Placed) (version : ℕ) (m : PlainManifest) → IsManifestObject object version m → 2 * sum_by (λ (f : Fragment). length f.files) m.fragments ≤ length object.bytes
few_files object version m o =
    let says = o.stands.said in
    let messages = parts_under 2 says.items in
    let few = files_few messages o.stands.whole.fragments says.said.fragments in
    let fit = parts_fit o.message.base o.message.bytes says.items 2 says.reads.spelled in
    subst (λ (fs : List Fragment). 2 * files_in fs ≤ length object.bytes) (sym o.stands.fragments) (omega (arith, few, fit, message_short object o.message o.framed))
