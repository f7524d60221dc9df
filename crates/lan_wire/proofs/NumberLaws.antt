-- The numbers of a part are one list, or one fault.
use Rattle.std.proofs.Common.{◌≡◌, ℕ, List, [], ◌∷◌, ◌++◌, refl, sym, ap, subst, ◌∙◌, append_assoc}
use Rattle.std.proofs.lemmas.List.{append-nil}
use Rattle.std.specs.Prelude.{Option, Some, None}
use Rattle.lan_wire.specs.declared.item.WireKind.{WireKind}
use Rattle.lan_wire.specs.Reading.{varint_at}
use Rattle.lan_wire.specs.Spells.{IsGroups, IsVarint}
use Rattle.lan_wire.specs.Faults.{BreaksVarint}
use Rattle.lan_wire.specs.Readers.{AreNumbers, BreaksOff}
use Rattle.lan_wire.proofs.FrontVarint.{ok_is}
use Rattle.lan_wire.proofs.FrontItem.{number_again}
use Rattle.lan_wire.proofs.FaultLaws.{err_is, ok_not_err}
use Rattle.lan_wire.proofs.FaultsHold.{breaks_fails, breaks_something}

-- what stands behind the numbers: nothing, or a varint that can't be read
abbrev Ends : Option WireKind → List ℕ → Type 0
Ends None rest = rest ≡ []
Ends (Some k) rest = BreaksVarint k rest

ends_apart : (rest : List ℕ) (d e : Option WireKind) → Ends d rest → Ends e rest → d ≡ e
ends_apart rest None None p q = refl
ends_apart rest None (Some k) p q = absurd (breaks_something k (subst (BreaksVarint k) p q))
ends_apart rest (Some j) None p q = absurd (breaks_something j (subst (BreaksVarint j) q p))
ends_apart rest (Some j) (Some k) p q = ap (λ (x : WireKind). Some x) (err_is {A = ℕ × List ℕ} j k (sym (breaks_fails rest j p) ∙ breaks_fails rest k q))

no_groups : (front rest : List ℕ) (n : ℕ) → IsGroups front n → [] ≡ front ++ rest → ⊥
no_groups [] rest n g e = g
no_groups (b ∷ bs) rest n g e = absurd cc

not_ended : (rest : List ℕ) (d : Option WireKind) (front more : List ℕ) (n : ℕ) → Ends d rest → IsVarint front n → rest ≡ front ++ more → ⊥
not_ended rest None front more n p v e = no_groups front more n v.groups (sym p ∙ e)
not_ended rest (Some k) front more n p v e = ok_not_err (n, more) k (sym (number_again front n more v) ∙ ap varint_at (sym e) ∙ breaks_fails rest k p)

same_end : (a b r s : List ℕ) (ms ns : List ℕ) (d e : Option WireKind) → AreNumbers a ms → AreNumbers b ns → Ends d r → Ends e s → a ++ r ≡ b ++ s → (ms ≡ ns) × (d ≡ e)
same_end a b r s [] [] d e p q h k eq =
    let same : r ≡ s = ap (λ (t : List ℕ). t ++ r) (sym p) ∙ eq ∙ ap (λ (t : List ℕ). t ++ s) q in
    (refl, ends_apart s d e (subst (Ends d) same h) k)
same_end a b r s [] (n ∷ ns) d e p q h k eq =
    absurd (not_ended r d q.0 (q.1 ++ s) n h q.3 (ap (λ (t : List ℕ). t ++ r) (sym p) ∙ eq ∙ ap (λ (t : List ℕ). t ++ s) q.2 ∙ append_assoc q.0 q.1 s))
same_end a b r s (m ∷ ms) [] d e p q h k eq =
    absurd (not_ended s e p.0 (p.1 ++ r) m k p.3 (ap (λ (t : List ℕ). t ++ s) (sym q) ∙ sym eq ∙ ap (λ (t : List ℕ). t ++ r) p.2 ∙ append_assoc p.0 p.1 r))
same_end a b r s (m ∷ ms) (n ∷ ns) d e p q h k eq =
    let whole : p.0 ++ (p.1 ++ r) ≡ q.0 ++ (q.1 ++ s) = sym (append_assoc p.0 p.1 r) ∙ ap (λ (t : List ℕ). t ++ r) (sym p.2) ∙ eq ∙ ap (λ (t : List ℕ). t ++ s) q.2 ∙ append_assoc q.0 q.1 s in
    let both : (m, p.1 ++ r) ≡ (n, q.1 ++ s) = ok_is (m, p.1 ++ r) (n, q.1 ++ s) (sym (number_again p.0 m (p.1 ++ r) p.3) ∙ ap varint_at whole ∙ number_again q.0 n (q.1 ++ s) q.3) in
    let later = same_end p.1 q.1 r s ms ns d e p.4 q.4 h k (ap (λ (x : ℕ × List ℕ). x.1) both) in
    (ap (λ (x : ℕ). x ∷ ms) (ap (λ (x : ℕ × List ℕ). x.0) both) ∙ ap (λ (xs : List ℕ). n ∷ xs) later.0, later.1)

pub numbers_unique : (bytes : List ℕ) (ms ns : List ℕ) → AreNumbers bytes ms → AreNumbers bytes ns → ms ≡ ns
numbers_unique bytes ms ns p q = (same_end bytes bytes [] [] ms ns None None p q refl refl refl).0

pub one_break : (bytes : List ℕ) (j k : WireKind) → BreaksOff j bytes → BreaksOff k bytes → j ≡ k
one_break bytes j k p q = some_is j k (same_end p.0 q.0 p.1 q.1 p.2 q.2 (Some j) (Some k) p.4 q.4 p.5 q.5 (sym p.3 ∙ q.3)).1 where
  some_is : (j k : WireKind) → Some j ≡ Some k → j ≡ k
  some_is j k e = cc

pub no_numbers : (bytes : List ℕ) (k : WireKind) (ns : List ℕ) → BreaksOff k bytes → AreNumbers bytes ns → ⊥
no_numbers bytes k ns p q = some_not_none k (same_end p.0 bytes p.1 [] p.2 ns (Some k) None p.4 q p.5 refl (sym p.3 ∙ sym (append-nil bytes))).1 where
  some_not_none : (k : WireKind) → Some k ≡ None → ⊥
  some_not_none k e = absurd cc

-- one more number
pub numbers_push : (bytes more : List ℕ) (ns : List ℕ) (n : ℕ) → AreNumbers bytes ns → IsVarint more n → AreNumbers (bytes ++ more) (ns ++ n ∷ [])
numbers_push bytes more [] n p v = (more, [], ap (λ (f : List ℕ). f ++ more) p ∙ sym (append-nil more), v, refl)
numbers_push bytes more (m ∷ ms) n p v = (p.0, p.1 ++ more, ap (λ (f : List ℕ). f ++ more) p.2 ∙ append_assoc p.0 p.1 more, p.3, numbers_push p.1 more ms n p.4 v)
