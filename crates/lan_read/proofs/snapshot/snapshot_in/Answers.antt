use Rattle.std.proofs.Common.{◌≡◌, ◌∙◌, ap, refl, rules, subst, sym, ℕ, List}
use Rattle.std.specs.Prelude.{Err, None}
use Rattle.lan_bytes.specs.Placed.{Placed}
use Rattle.lan_manifest.specs.ManifestObjects.{RefusesManifest}
use Rattle.lan_manifest.specs.declared.manifest.Manifest.{Manifest}
use Rattle.lan_read.specs.Failures.{unread_failure}
use Rattle.lan_read.specs.Opening.{ReadsBytes, fault_place}
use Rattle.lan_read.specs.declared.read_fault.ReadFault.{ReadFault}
use Rattle.lan_read.proofs.snapshot.snapshot_in.Goals as goal

pub returns : goal.returns
returns c =
    let whole : List ℕ → Placed = λ bytes. record { base = 0; bytes = bytes } in
    let front : c.new-object.result ≡ whole c.args.bytes = c.new-object.ensures ∙ ap whole c.as_slice.ensures in
    let read : c.again.result ≡ whole c.args.bytes = c.again.ensures ∙ front in
    let refuses = subst (λ (o : Placed). RefusesManifest o c.args.version c.in-Err.fault) read c.in-Err.ensures.fault in
    let at : c.place_of-place.result ≡ fault_place c.args.bytes c.in-Err.fault = (subst (λ (o : Placed). RefusesManifest o c.args.version c.in-Err.fault → c.place_of-place.result ≡ fault_place o.bytes c.in-Err.fault) front (c.place_of-place.ensures c.args.version)) refuses in
    record {
      reads = λ small.
          let R : ReadFault → Type 0 = λ f. ReadsBytes c.args.version c.args.name c.args.bytes (Err f) in
          subst R (sym c.outside.ensures) (refl, record { small = small; refuses = refuses; no_want = search rules; at = at });
      opened = tt;
      calm = subst (λ (f : ReadFault). unread_failure {A = Manifest} (Err f) ≡ None) (sym c.outside.ensures) refl;
    }
