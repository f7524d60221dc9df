-- Numbers of 64 bits that a message says can be written.
use Rattle.std.proofs.Common.{◌≡◌, ℕ, ◌+◌, ◌^◌, ◌<◌, Bool, true, false, cond, List, [], ◌∷◌, ◌++◌, length, Option, Some, None, refl, sym, ap, subst, ◌∙◌, arith}
use Rattle.std.specs.Prelude.{nat_eq}
use Rattle.std.specs.List.{AllByRecursion}
use Rattle.std.proofs.lemmas.Bool.{eqb-true}
use Rattle.std.specs.Result.{result_unwrap_or}
use Rattle.lan_bytes.specs.Placed.{Placed}
use Rattle.lan_wire.specs.declared.item.Body.{Body}
use Rattle.lan_wire.specs.declared.item.Body.TheVariants.{Num, Eight, Four, Part}
use Rattle.lan_wire.specs.declared.item.Item.{Item}
use Rattle.lan_wire.specs.declared.item.WireFault.{WireFault}
use Rattle.lan_wire.specs.declared.rules.Kind.{Kind}
use Rattle.lan_wire.specs.declared.rules.Kind.TheVariants.{Numbers}
use Rattle.lan_wire.specs.Readers.{AreNumbers, HasNumbers, num_of, num_or}
use Rattle.lan_wire.specs.Rules.{Rules, kind_at}
use Rattle.lan_wire.specs.Spells.{SpellsBody, Items}
use Rattle.lan_wire.specs.Messages.{IsOfKind, Obey, ReadsItems}
use Rattle.lan_wire.specs.Values.{read_or, of_number, last_from, numbers_in, all_numbers, num_under, nums_under}
use Rattle.lan_wire.proofs.NumberLists.{numbers_are}

-- a number in a body is of 64 bits
abbrev IsWord : Body → Type 0
IsWord (Num n) = n < 2 ^ 64
IsWord _ = Unit {0}

word_spelled : (at : ℕ) (bytes : List ℕ) (body : Body) → SpellsBody at bytes body → IsWord body
word_spelled at bytes (Num n) s = s.fits
word_spelled at bytes (Eight n) s = tt
word_spelled at bytes (Four n) s = tt
word_spelled at bytes (Part part) s = tt

words : (at : ℕ) (bytes : List ℕ) (items : List Item) → Items at bytes items → AllByRecursion (λ item. IsWord item.body) items
words at bytes [] p = tt
words at bytes (x ∷ xs) p = (word_spelled _ _ x.body p.3.is_body, words (at + length p.0) p.1 xs p.5)

keep : (P : Item → Type 0) (number : ℕ) (items : List Item) → AllByRecursion P items → AllByRecursion P (of_number number items)
keep P number [] h = tt
keep P number (x ∷ xs) h = by (nat_eq x.number number) (keep P number xs h.1) where
  by : (b : Bool) → AllByRecursion P (of_number number xs) → AllByRecursion P (cond b (x ∷ of_number number xs) (of_number number xs))
  by true rest = (h.0, rest)
  by false rest = rest

word_of : (wrong : WireFault) (body : Body) → IsWord body → result_unwrap_or (num_or wrong body) 0 < 2 ^ 64
word_of wrong (Num n) h = h
word_of wrong (Eight n) h = omega arith
word_of wrong (Four n) h = omega arith
word_of wrong (Part part) h = omega arith

last_word : (last : Option Item) (items : List Item) → read_or 0 num_of last < 2 ^ 64 → AllByRecursion (λ item. IsWord item.body) items → read_or 0 num_of (last_from last items) < 2 ^ 64
last_word last [] h all = h
last_word last (x ∷ xs) h all = last_word (Some x) xs (word_of _ x.body all.0) all.1

pub num_fits : (number at : ℕ) (bytes : List ℕ) (items : List Item) → Items at bytes items → num_under number items < 2 ^ 64
num_fits number at bytes items p = last_word None (of_number number items) (omega arith) (keep (λ item. IsWord item.body) number items (words at bytes items p))

-- ---- lists

abbrev Words : List ℕ → Type 0
Words ns = AllByRecursion (λ n. n < 2 ^ 64) ns

numbers_words : (bytes ns : List ℕ) → AreNumbers bytes ns → Words ns
numbers_words bytes [] p = tt
numbers_words bytes (n ∷ ns) p = (p.3.fits, numbers_words p.1 ns p.4)

body_words : (body : Body) (ns : List ℕ) → HasNumbers body ns → IsWord body → Words (numbers_in body)
body_words (Num n) ns h small = (small, tt)
body_words (Eight n) ns h small = tt
body_words (Four n) ns h small = tt
body_words (Part part) ns h small = subst Words (sym (numbers_are part.bytes ns h)) (numbers_words part.bytes ns h)

both_words : (ms ns : List ℕ) → Words ms → Words ns → Words (ms ++ ns)
both_words [] ns p q = q
both_words (m ∷ ms) ns p q = (p.0, both_words ms ns p.1 q)

all_words : (rules : Rules) (number : ℕ) (before items : List Item) → kind_at rules number ≡ Numbers → Obey rules before items → AllByRecursion (λ item. IsWord item.body) items → Words (all_numbers (of_number number items))
all_words rules number before [] is obey small = tt
all_words rules number before (x ∷ xs) is obey small = by (nat_eq x.number number) refl (all_words rules number (before ++ x ∷ []) xs is obey.1 small.1) where
  by : (b : Bool) → nat_eq x.number number ≡ b → Words (all_numbers (of_number number xs)) → Words (all_numbers (cond b (x ∷ of_number number xs) (of_number number xs)))
  by true e rest =
      let same : x.number ≡ number = eqb-true x.number number e in
      let kind : kind_at rules x.number ≡ Numbers = ap (kind_at rules) same ∙ is in
      let read : IsOfKind Numbers x = subst (λ (k : Kind). IsOfKind k x) kind obey.0.read in
      both_words (numbers_in x.body) (all_numbers (of_number number xs)) (body_words x.body read.0 read.1 small.0) rest
  by false e rest = rest

pub nums_fit : (rules : Rules) (message : Placed) (items : List Item) (number : ℕ) → ReadsItems rules message items → kind_at rules number ≡ Numbers → Words (nums_under number items)
nums_fit rules message items number r is = all_words rules number [] items is r.obeyed (words message.base message.bytes items r.spelled)
