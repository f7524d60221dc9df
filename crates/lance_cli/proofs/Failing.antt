-- The store's part in an answer is that of the fault it comes from.
use Rattle.std.proofs.Common.{◌≡◌, refl, sym, ◌∙◌, subst, ℕ, ◌≤◌, List, false}
use Rattle.std.specs.Prelude.{Bool, IsTrue, Option, None, Result, Ok, Err}
use Rattle.lan_store.specs.Budget.{Budget}
use Rattle.lan_store.specs.Causes.{HasCause}
use Rattle.lan_store.specs.Looked.{Looked, Stored}
use Rattle.lan_store.specs.Telling.{Telling}
use Rattle.lan_store.specs.declared.name.Name.{Name}
use Rattle.lan_store.specs.declared.name.Object.{Object}
use Rattle.lan_rows.specs.declared.lines.LinesFault.{LinesFault}
use Rattle.lan_model.specs.Plain.{PlainField, PlainValue}
use Rattle.lan_read.specs.Failures.{unread_failure}
use Rattle.lan_read.specs.declared.read_fault.ReadFault.{ReadFault}
use Rattle.lan_read.specs.declared.read_fault.ReadFault.TheVariants as unread
use Rattle.lan_commit.specs.Failures.{change_failure, change_clashed}
use Rattle.lan_commit.specs.declared.committing.CommitFault.{CommitFault}
use Rattle.lan_commit.specs.declared.committing.CommitFault.TheVariants as unmade
use Rattle.lance_cli.specs.Changes.{Change}
use Rattle.lance_cli.specs.Commands.{Request, is_change}
use Rattle.lance_cli.specs.Creates.{ReadsFields}
use Rattle.lance_cli.specs.Failures.{failure_of, clashed}
use Rattle.lance_cli.specs.Faults.{of_read, of_commit}
use Rattle.lance_cli.specs.Lines.{RowsAre}
use Rattle.lance_cli.specs.Plans.{Plans}
use Rattle.lance_cli.specs.Reports.{PrintsReply}
use Rattle.lance_cli.specs.Served.{Served}
use Rattle.lance_cli.specs.declared.fault.Fault.{Fault}
use Rattle.lance_cli.specs.declared.fault.Fault.TheVariants as fault

pub read_failed : (f : ReadFault) → unread_failure {A = Unit {0}} (Err f) ≡ failure_of {A = Unit {0}} (Err (of_read f))
read_failed unread.NoDataset = refl
read_failed (unread.NoVersion asked newest) = refl
read_failed (unread.Outside name why place) = refl
read_failed (unread.Store name) = refl
read_failed unread.Memory = refl

commit_failed : (f : CommitFault) → change_failure {A = Unit {0}} (Err f) ≡ failure_of {A = Unit {0}} (Err (of_commit f))
commit_failed (unmade.AlreadyThere version) = refl
commit_failed (unmade.Limit which number) = refl
commit_failed (unmade.Raced name) = refl
commit_failed (unmade.Store name) = refl
commit_failed unmade.Memory = refl

commit_clashed : (f : CommitFault) → change_clashed {A = Unit {0}} (Err f) ≡ clashed {A = Unit {0}} (Err (of_commit f))
commit_clashed (unmade.AlreadyThere version) = refl
commit_clashed (unmade.Limit which number) = refl
commit_clashed (unmade.Raced name) = refl
commit_clashed (unmade.Store name) = refl
commit_clashed unmade.Memory = refl

pub read_looked : (f : ReadFault) (most : Budget) (s t : Telling) → Looked (unread_failure {A = Unit {0}} (Err f)) most s t → Looked (failure_of {A = Unit {0}} (Err (of_read f))) most s t
read_looked f most s t looked = subst (λ o. Looked o most s t) (read_failed f) looked

pub commit_looked : (f : CommitFault) (most : Budget) (s t : Telling) → Looked (change_failure {A = Unit {0}} (Err f)) most s t → Looked (failure_of {A = Unit {0}} (Err (of_commit f))) most s t
commit_looked f most s t looked = subst (λ o. Looked o most s t) (commit_failed f) looked

pub commit_stored : (f : CommitFault) (most : Budget) (s t : Telling) → Stored (change_failure {A = Unit {0}} (Err f)) most (change_clashed {A = Unit {0}} (Err f)) s t → Stored (failure_of {A = Unit {0}} (Err (of_commit f))) most (clashed {A = Unit {0}} (Err (of_commit f))) s t
commit_stored f most s t stored =
    subst (λ o. Stored o most (clashed {A = Unit {0}} (Err (of_commit f))) s t) (commit_failed f)
    (subst (λ b. Stored (change_failure {A = Unit {0}} (Err f)) most b s t) (commit_clashed f) stored)

-- what isn't of the store
pub commit_unfailing : (f : CommitFault) → ((name : Name) → f ≡ unmade.Store name → ⊥) → None ≡ failure_of {A = Unit {0}} (Err (of_commit f))
commit_unfailing (unmade.AlreadyThere version) not = refl
commit_unfailing (unmade.Limit which number) not = refl
commit_unfailing (unmade.Raced name) not = refl
commit_unfailing (unmade.Store name) not = absurd (not name refl)
commit_unfailing unmade.Memory not = refl

pub rows_unfailing : (fields : List (PlainField ℕ)) (wanted : Result (List (List PlainValue)) LinesFault) (f : Fault) → RowsAre fields wanted (Err f) → None ≡ failure_of {A = Unit {0}} (Err f)
rows_unfailing fields wanted (fault.StoreFault name) rows = absurd rows
rows_unfailing fields wanted f rows = refl

pub fields_unfailing : (json : List ℕ) (line : ℕ) (f : Fault) → ReadsFields json line (Err f) → None ≡ failure_of {A = Unit {0}} (Err f)
fields_unfailing json line (fault.StoreFault name) fields = absurd fields
fields_unfailing json line f fields = refl

pub reply_unfailing : (text : List ℕ) (held holds : Option (List ℕ)) (result : Result Unit Fault) → PrintsReply text held holds result → None ≡ failure_of result
reply_unfailing text held holds (Ok _) prints = refl
reply_unfailing text held holds (Err (fault.StoreFault name)) prints = absurd prints
reply_unfailing text held holds (Err f) prints = refl

pub reply_unclashed : (text : List ℕ) (held holds : Option (List ℕ)) (result : Result Unit Fault) → PrintsReply text held holds result → false ≡ clashed result
reply_unclashed text held holds (Ok _) prints = refl
reply_unclashed text held holds (Err (fault.Raced name)) prints = absurd prints
reply_unclashed text held holds (Err f) prints = refl

pub plans_unclashed : (before : Option (List Object)) (r : Request) (f : Fault) → Plans before r (Err f) → clashed {A = Unit {0}} (Err f) ≡ false
plans_unclashed before r (fault.Raced name) plans = absurd plans
plans_unclashed before r f plans = refl

-- a command that changes nothing meets no name
pub served_unclashed : (c : Change) (r : Request) (result : Result Unit Fault) → is_change r.asked ≡ false → Served c r result → clashed result ≡ false
served_unclashed c r (Ok _) still served = refl
served_unclashed c r (Err (fault.Raced name)) still served = absurd (cc (sym still ∙ served.0.0))
served_unclashed c r (Err f) still served = refl

pub no_clash : (b : Bool) (before now : ℕ) → b ≡ false → before ≤ now → HasCause (IsTrue b) before now
no_clash b before now none later = record { later = later; rose = λ rose. absurd (cc (sym none ∙ rose)) }
