-- What a command's own words decide.
use Rattle.std.proofs.Common.{◌≡◌, inl, inr, refl, sym, ◌∙◌, ap, ℕ, List, true}
use Rattle.std.specs.Prelude.{◌⊎◌, Result, Ok, Err}
use Rattle.lan_model.specs.Plain.{PlainField}
use Rattle.lan_store.specs.Telling.{Telling}
use Rattle.lance_cli.specs.Causes.{BadWords}
use Rattle.lance_cli.specs.Commands.{Asked, create, append, restore, scan, schema, versions, needs_dataset}
use Rattle.lance_cli.specs.Creates.{Takes, ReadsFields}
use Rattle.lance_cli.specs.Faults.{of_form}
use Rattle.lance_cli.specs.Words.{ByWords, WordsFirst}
use Rattle.lance_cli.specs.declared.fault.Fault.{Fault}
use Rattle.lance_cli.specs.declared.fault.Fault.TheVariants as fault

abbrev Failed : {A : Type 0} → Fault → Result A Fault
Failed f = Err f

-- where the words decide, reading them answers so, or finds no memory
pub words_read : {A B : Type 0} (old : A) (json : List ℕ) (line : ℕ) (f g : Fault) → ByWords (create json) line f → ReadsFields json line (Err g) → (old ≡ old) × ((Failed {A = B} g ≡ Err f) ⊎ (Failed {A = B} g ≡ Err fault.Memory))
words_read {A = A} {B = B} old json line f g by_words read = (refl, go f g by_words read) where
  go : (f g : Fault) → ByWords (create json) line f → ReadsFields json line (Err g) → (Failed {A = B} g ≡ Err f) ⊎ (Failed {A = B} g ≡ Err fault.Memory)
  go f fault.Memory by_words read = inr refl
  go (fault.BadInput number why) (fault.BadInput other words) (form_fault, bad, said) (form_other, bad_other, said_other) =
      let same : form_fault ≡ form_other = cc (sym bad ∙ bad_other) in
      inl (ap (λ f. Err f) (said_other ∙ ap (of_form line) (sym same) ∙ sym said))
  go (fault.BadInput number why) g by_words read = absurd read
  go f g by_words read = absurd by_words

-- a text of which tables are made decides nothing
pub words_taken : (json : List ℕ) (line : ℕ) (f : Fault) (fields : List (PlainField ℕ)) → ByWords (create json) line f → Takes json fields → ⊥
words_taken json line (fault.BadInput number why) fields (form_fault, bad, said) takes = absurd (cc (sym takes.form ∙ bad))
words_taken json line f fields by_words takes = absurd by_words

-- the words of a command on a dataset that is there decide nothing
undecided : (asked : Asked) (line : ℕ) (f : Fault) → needs_dataset asked ≡ true → ByWords asked line f → ⊥
undecided asked line (fault.BadInput number why) needs by_words = go asked needs by_words where
  go : (asked : Asked) → needs_dataset asked ≡ true → BadWords asked line (fault.BadInput number why) → ⊥
  go (create json) needs bad = absurd (cc needs)
  go append needs bad = bad
  go (restore version) needs bad = bad
  go (scan options) needs bad = bad
  go (schema version) needs bad = bad
  go versions needs bad = bad
undecided asked line f needs by_words = by_words

pub words_none : {A : Type 0} (asked : Asked) (line : ℕ) (before now : Telling) (result : Result A Fault) → needs_dataset asked ≡ true → WordsFirst asked line before now result
words_none asked line before now result needs = λ f by_words. absurd (undecided asked line f needs by_words)

-- what was answered of a plan is answered of the command
pub words_refused : {A B : Type 0} (asked : Asked) (line : ℕ) (before now : Telling) (result : Result B Fault) (f : Fault) → result ≡ Err f → WordsFirst {A = A} asked line before now (Err f) → WordsFirst asked line before now result
words_refused {A = A} asked line before now result f is first = λ g by_words.
    let (same, or) = first g by_words in (
      same,
      elim or [
        | inl so ↦ let one : f ≡ g = cc so in inl (is ∙ ap (λ f. Err f) one)
        | inr none ↦ let one : f ≡ fault.Memory = cc none in inr (is ∙ ap (λ f. Err f) one)
      ],
    )

-- what is planned wasn't decided by the words
pub words_planned : {A B : Type 0} (asked : Asked) (line : ℕ) (before mid now : Telling) (planned : A) (result : Result B Fault) → WordsFirst {A = A} asked line before mid (Ok planned) → WordsFirst asked line before now result
words_planned asked line before mid now planned result first = λ g by_words. elim (first g by_words).1 [ inl so ↦ absurd (cc so) | inr none ↦ absurd (cc none) ]
