-- What a walk over the words of options keeps.
use Rattle.std.proofs.Common.{◌≡◌, ◌≢◌, refl, sym, ap, ◌∙◌, ℕ, ◌^◌, ◌<◌, Bool, true, false, cond, not, List, [], ◌∷◌, ◌++◌, arith, Bor, length, take, drop, get_or, ◌-◌, ◌≤◌, eqb, eqb-true}
use Rattle.std.proofs.lemmas.List.{append-nil, take_all}
use Rattle.std.specs.Prelude.{◌&&◌, ◌||◌, nat_lt, codes, decimal, bytes_eq, Option, Some, None, IfSome, IfNone, is_some, option_map, option_and_then}
use Rattle.std.specs.Cmp.Lexicographic.{slice_cmp}
use Rattle.std.specs.Iterator.{AlwaysYields}
use Rattle.std.specs.Ordering.{nat_cmp, is_eq}
use Rattle.std.specs.Str.Iter.{split_steps}
use Rattle.std.specs.Str.Parse.{digits_value}
use Rattle.std.specs.Str.Pattern.{FindsChar}
use Rattle.std.specs.declared.str.Split.{Split}
use Rattle.std.proofs.lemmas.Bool.Decides.{nat_tests}
use Rattle.std.proofs.lemmas.Slice.Eq.{bytes_eq-Decides}
use Rattle.std.proofs.lemmas.Fmt.{digits_value-decimal}
use Rattle.std.proofs.lemmas.Map.Text.{is_eq-slice_cmp}
use Rattle.lan_schema.proofs.LogicalParts.{own}
use Rattle.lance_cli.specs.Options.{Options, number_in, names_in, between_commas, is_among, are_names, with_option, options_in}

small_by : (b c : Bool) (n : ℕ) → (b ≡ true → c ≡ true → ⊥) → cond (b && c) (Some n) None ≡ None
small_by true true n h = absurd (h refl refl)
small_by true false n h = refl
small_by false c n h = refl

number_none : (s : List ℕ) → ((n : ℕ) → n < 2 ^ 64 → s ≢ decimal n) → number_in s ≡ None
unfolding number_in
number_none s other =
    let n = digits_value 10 s in
    small_by (bytes_eq s (decimal n)) (nat_lt n (2 ^ 64)) n
    (λ same few. let small : n < 2 ^ 64 = grind (arith, nat_tests, few) in other n small ((bytes_eq-Decides s (decimal n)).0 same))

number_some : (s : List ℕ) (n : ℕ) → n < 2 ^ 64 → s ≡ decimal n → number_in s ≡ Some n
unfolding number_in
number_some s n small is =
    let value : digits_value 10 s ≡ n = ap (digits_value 10) is ∙ digits_value-decimal own n small in
    let same : bytes_eq s (decimal n) ≡ true = (bytes_eq-Decides s (decimal n)).1 is in
    let few : nat_lt n (2 ^ 64) ≡ true = grind (arith, nat_tests, small) in
    rw (value, same, few) refl

-- what a search for a number says
pub number_is : (s : List ℕ) (r : Option ℕ) → IfSome r (λ n. n < 2 ^ 64) → IfSome r (λ n. s ≡ decimal n) → IfNone r ((n : ℕ) → n < 2 ^ 64 → s ≢ decimal n) → r ≡ number_in s
number_is s None small some none = sym (number_none s none)
number_is s (Some n) small some none = sym (number_some s n small some)

-- the options of words, added to these from the last words on
unfoldable pub options_onto : Options → List (List ℕ) → Option Options
options_onto options [] = Some options
options_onto options (name ∷ []) = None
options_onto options (name ∷ value ∷ words) = option_and_then (with_option name value) (options_onto options words)

pub onto_none : (words : List (List ℕ)) → options_onto (record { version = None; columns = None }) words ≡ options_in words
unfolding options_onto options_in
onto_none [] = refl
onto_none (name ∷ []) = refl
onto_none (name ∷ value ∷ words) = ap (option_and_then (with_option name value)) (onto_none words)

-- what an option of one kind makes of the options
abbrev versioned : Option ℕ → Options → Option Options
versioned n o = cond (is_some o.version) None (option_map (λ v. record { version = Some v; columns = o.columns }) n)

abbrev columned : Option (List (List ℕ)) → Options → Option Options
columned names o = cond (is_some o.columns) None (option_map (λ c. record { version = o.version; columns = Some c }) names)

abbrev picked : Bool → Bool → Option ℕ → Option (List (List ℕ)) → Options → Option Options
picked a b n names o = cond a (versioned n o) (cond b (columned names o) None)

abbrev nothing : Options → Option Options
nothing o = None

and_nothing : (o : Option Options) → option_and_then nothing o ≡ None
and_nothing None = refl
and_nothing (Some o) = refl

two_versions : (m n : Option ℕ) (v : Option ℕ) (cs : Option (List (List ℕ))) → option_and_then (versioned n) (versioned m (record { version = v; columns = cs })) ≡ None
two_versions m n (Some x) cs = refl
two_versions None n None cs = refl
two_versions (Some x) n None cs = refl

two_columns : (m n : Option (List (List ℕ))) (v : Option ℕ) (cs : Option (List (List ℕ))) → option_and_then (columned n) (columned m (record { version = v; columns = cs })) ≡ None
two_columns m n v (Some x) = refl
two_columns None n v None = refl
two_columns (Some x) n v None = refl

one_of_each : (n : Option ℕ) (names : Option (List (List ℕ))) (v : Option ℕ) (cs : Option (List (List ℕ)))
    → option_and_then (columned names) (versioned n (record { version = v; columns = cs })) ≡ option_and_then (versioned n) (columned names (record { version = v; columns = cs }))
one_of_each n names (Some x) (Some c) = refl
one_of_each n None (Some x) None = refl
one_of_each n (Some c) (Some x) None = refl
one_of_each None names None (Some c) = refl
one_of_each (Some y) names None (Some c) = refl
one_of_each None None None None = refl
one_of_each None (Some c) None None = refl
one_of_each (Some y) None None None = refl
one_of_each (Some y) (Some c) None None = refl

pick_swapped : (a b c d : Bool) (m n : Option ℕ) (ms ns : Option (List (List ℕ))) (v : Option ℕ) (cs : Option (List (List ℕ)))
    → option_and_then (picked c d n ns) (picked a b m ms (record { version = v; columns = cs })) ≡ option_and_then (picked a b m ms) (picked c d n ns (record { version = v; columns = cs }))
pick_swapped true b true d m n ms ns v cs = two_versions m n v cs ∙ sym (two_versions n m v cs)
pick_swapped true b false true m n ms ns v cs = one_of_each m ns v cs
pick_swapped true b false false m n ms ns v cs = and_nothing (versioned m (record { version = v; columns = cs }))
pick_swapped false true true d m n ms ns v cs = sym (one_of_each n ms v cs)
pick_swapped false true false true m n ms ns v cs = two_columns ms ns v cs ∙ sym (two_columns ns ms v cs)
pick_swapped false true false false m n ms ns v cs = and_nothing (columned ms (record { version = v; columns = cs }))
pick_swapped false false true d m n ms ns v cs = sym (and_nothing (versioned n (record { version = v; columns = cs })))
pick_swapped false false false true m n ms ns v cs = sym (and_nothing (columned ns (record { version = v; columns = cs })))
pick_swapped false false false false m n ms ns v cs = refl

-- two options are taken in either order
swapped : (name value other own : List ℕ) (options : Options) → option_and_then (with_option other own) (with_option name value options) ≡ option_and_then (with_option name value) (with_option other own options)
unfolding with_option
swapped name value other own options =
    pick_swapped (bytes_eq name (codes "--version")) (bytes_eq name (codes "--columns")) (bytes_eq other (codes "--version")) (bytes_eq other (codes "--columns"))
    (number_in value) (number_in own) (names_in value) (names_in own) options.version options.columns

and_some : (o : Option Options) → option_and_then (λ p. Some p) o ≡ o
and_some None = refl
and_some (Some p) = refl

and_and : (f g : Options → Option Options) (o : Option Options) → option_and_then (λ p. option_and_then g (f p)) o ≡ option_and_then g (option_and_then f o)
and_and f g None = refl
and_and f g (Some p) = refl

and_by : (f g : Options → Option Options) → ((p : Options) → f p ≡ g p) → (o : Option Options) → option_and_then f o ≡ option_and_then g o
and_by f g same None = refl
and_by f g same (Some p) = same p

-- the option of the first two words is taken first
pub taken_first : (name value : List ℕ) (options : Options) (words : List (List ℕ)) → option_and_then (λ p. options_onto p words) (with_option name value options) ≡ options_onto options (name ∷ value ∷ words)
unfolding options_onto
taken_first name value options [] = and_some (with_option name value options)
taken_first name value options (other ∷ []) = and_nothing (with_option name value options)
taken_first name value options (other ∷ own ∷ words) =
    and_and (λ p. options_onto p words) (with_option other own) (with_option name value options)
    ∙ ap (option_and_then (with_option other own)) (taken_first name value options words)
    ∙ sym (and_and (with_option name value) (with_option other own) (options_onto options words))
    ∙ and_by (λ p. option_and_then (with_option other own) (with_option name value p)) (λ p. option_and_then (with_option name value) (with_option other own p)) (swapped name value other own) (options_onto options words)
    ∙ and_and (with_option other own) (with_option name value) (options_onto options words)

-- the words from the first two on
two_first : (words : List (List ℕ)) (name value : List ℕ) → 2 ≤ length words → name ≡ get_or words 0 name → value ≡ get_or words 1 value → words ≡ name ∷ value ∷ take (length words - 2) (drop 2 words)
two_first [] name value some first second = absurd (omega arith)
two_first (a ∷ []) name value some first second = absurd (omega arith)
two_first (a ∷ b ∷ words) name value some first second =
    let whole : take (length (a ∷ b ∷ words) - 2) words ≡ words = take_all (length (a ∷ b ∷ words) - 2) words (omega arith) in
    ap (λ (x : List ℕ). x ∷ b ∷ words) (sym first) ∙ ap (λ (y : List ℕ). name ∷ y ∷ words) (sym second) ∙ ap (λ l. name ∷ value ∷ l) (sym whole)

-- the first two words, where they are an option that may be taken, and where they are not
pub goes_on : (words : List (List ℕ)) (name value : List ℕ) (options more : Options) → 2 ≤ length words → name ≡ get_or words 0 name → value ≡ get_or words 1 value
    → with_option name value options ≡ Some more → options_onto more (take (length words - 2) (drop 2 words)) ≡ options_onto options words
goes_on words name value options more some first second taken =
    let rest = take (length words - 2) (drop 2 words) in
    ap (option_and_then (λ p. options_onto p rest)) (sym taken) ∙ taken_first name value options rest ∙ ap (options_onto options) (sym (two_first words name value some first second))

pub stops : (words : List (List ℕ)) (name value : List ℕ) (options : Options) → 2 ≤ length words → name ≡ get_or words 0 name → value ≡ get_or words 1 value
    → with_option name value options ≡ None → None ≡ options_onto options words
stops words name value options some first second none =
    let rest = take (length words - 2) (drop 2 words) in
    ap (option_and_then (λ p. options_onto p rest)) (sym none) ∙ taken_first name value options rest ∙ ap (options_onto options) (sym (two_first words name value some first second))

pub at_end : (words : List (List ℕ)) (options : Options) → eqb (length words) 0 ≡ true → Some options ≡ options_onto options words
unfolding options_onto
at_end [] options none = refl
at_end (w ∷ words) options none = let same : length (w ∷ words) ≡ 0 = eqb-true (length (w ∷ words)) 0 none in absurd (omega arith)

pub one_left : (words : List (List ℕ)) (options : Options) → length words < 2 → eqb (length words) 0 ≡ false → None ≡ options_onto options words
unfolding options_onto
one_left [] options few some = absurd (cc)
one_left (w ∷ []) options few some = refl
one_left (w ∷ v ∷ words) options few some = absurd (omega arith)

-- the same bytes, in either order
same_either : (x y : List ℕ) → bytes_eq x y ≡ bytes_eq y x
same_either x y =
    agree (bytes_eq x y) (bytes_eq y x) (λ is. (bytes_eq-Decides y x).1 (sym ((bytes_eq-Decides x y).0 is))) (λ is. (bytes_eq-Decides x y).1 (sym ((bytes_eq-Decides y x).0 is))) where
      agree : (a b : Bool) → (a ≡ true → b ≡ true) → (b ≡ true → a ≡ true) → a ≡ b
      agree true b f g = sym (f refl)
      agree false true f g = g refl
      agree false false f g = refl

or_true : (b : Bool) → (b || true) ≡ true
or_true true = refl
or_true false = refl

or_swapped : (a b c : Bool) → (a || (b || c)) ≡ (b || (a || c))
or_swapped true true c = refl
or_swapped true false c = refl
or_swapped false b c = refl

and_false : (a b c : Bool) → c ≡ false → (a && (b && c)) ≡ false
and_false false b c h = refl
and_false true false c h = refl
and_false true true c h = h

among_more : (names : List (List ℕ)) (name q : List ℕ) → is_among (names ++ name ∷ []) q ≡ (bytes_eq name q || is_among names q)
among_more [] name q = refl
among_more (n ∷ names) name q = ap (λ b. bytes_eq n q || b) (among_more names name q) ∙ or_swapped (bytes_eq n q) (bytes_eq name q) (is_among names q)

among_there : (names : List (List ℕ)) (name : List ℕ) (others : List (List ℕ)) (q : List ℕ) → bytes_eq name q ≡ true → is_among (names ++ name ∷ others) q ≡ true
among_there [] name others q is = rw is refl
among_there (n ∷ names) name others q is = ap (λ b. bytes_eq n q || b) (among_there names name others q is) ∙ or_true (bytes_eq n q)

-- names, one name more
pub named_more : (names : List (List ℕ)) (name : List ℕ) → are_names names ≡ true → bytes_eq name [] ≡ false → is_among names name ≡ false → are_names (names ++ name ∷ []) ≡ true
named_more [] name named some new = rw some refl
named_more (n ∷ names) name named some new =
    ap (λ b. not (bytes_eq n []) && (not b && are_names (names ++ name ∷ []))) (among_more names name n ∙ ap (λ b. b || is_among names n) (same_either name n))
    ∙ one_more (bytes_eq n []) (is_among names n) (are_names names) (bytes_eq n name) (is_among names name) (are_names (names ++ name ∷ [])) named new (λ before fresh. named_more names name before some fresh) where
      one_more : (a m r b k s : Bool) → (not a && (not m && r)) ≡ true → (b || k) ≡ false → (r ≡ true → k ≡ false → s ≡ true) → (not a && (not (b || m) && s)) ≡ true
      one_more a m r true k s h o f = absurd (cc)
      one_more true m r false k s h o f = absurd (cc)
      one_more false true r false k s h o f = absurd (cc)
      one_more false false r false k s h o f = f h o

pub empty_fails : (names : List (List ℕ)) (name : List ℕ) (others : List (List ℕ)) → bytes_eq name [] ≡ true → are_names (names ++ name ∷ others) ≡ false
empty_fails [] name others is = rw is refl
empty_fails (n ∷ names) name others is = and_false (not (bytes_eq n [])) (not (is_among (names ++ name ∷ others) n)) (are_names (names ++ name ∷ others)) (empty_fails names name others is)

pub twice_fails : (names : List (List ℕ)) (name : List ℕ) (others : List (List ℕ)) → is_among names name ≡ true → are_names (names ++ name ∷ others) ≡ false
twice_fails [] name others is = absurd (cc)
twice_fails (n ∷ names) name others is =
    either (bytes_eq n name) (is_among names name) (bytes_eq n []) (is_among (names ++ name ∷ others) n) (are_names (names ++ name ∷ others)) is
    (λ same. among_there names name others n (same_either name n ∙ same)) (λ before. twice_fails names name others before) where
      either : (b k a m r : Bool) → (b || k) ≡ true → (b ≡ true → m ≡ true) → (k ≡ true → r ≡ false) → (not a && (not m && r)) ≡ false
      either true k a m r h f g = rw (f refl) (and_false (not a) true false refl)
      either false k a m r h f g = and_false (not a) (not m) r (g h)

-- what a walk over the texts round the commas knows at its end, or at a text that is no name
pub names_fail : (s : List ℕ) (names : List (List ℕ)) (name : List ℕ) (others : List (List ℕ)) → between_commas s ≡ names ++ name ∷ others → are_names (names ++ name ∷ others) ≡ false → None ≡ names_in s
unfolding names_in
names_fail s names name others is fails = let none : are_names (between_commas s) ≡ false = ap are_names is ∙ fails in rw none refl

pub names_all : (s : List ℕ) (names ahead : List (List ℕ)) → between_commas s ≡ names ++ ahead → ahead ≡ [] → are_names names ≡ true → Some names ≡ names_in s
unfolding names_in
names_all s names ahead is none named =
    let parts : between_commas s ≡ names = is ∙ ap (λ l. names ++ l) none ∙ append-nil names in
    let all : are_names (between_commas s) ≡ true = ap are_names parts ∙ named in
    rw (all, parts) refl

-- what a set has with one name more
pub seen_more : (old new : Bor (List ℕ) → Bool) (names : List (List ℕ)) (name : List ℕ) (key : Bor (List ℕ)) → key.now ≡ name
    → ((q : Bor (List ℕ)) → old q ≡ is_among names q.now) → ((q : Bor (List ℕ)) → new q ≡ cond (is_eq (slice_cmp nat_cmp key.now q.now)) true (old q)) → (q : Bor (List ℕ)) → new q ≡ is_among (names ++ name ∷ []) q.now
seen_more old new names name key is was now q =
    now q
    ∙ ap (λ b. cond b true (old q)) (is_eq-slice_cmp key.now q.now)
    ∙ or_is (bytes_eq key.now q.now) (old q)
    ∙ ap (λ n. bytes_eq n q.now || old q) is
    ∙ ap (λ b. bytes_eq name q.now || b) (was q)
    ∙ sym (among_more names name q.now) where
      or_is : (a b : Bool) → cond a true b ≡ (a || b)
      or_is true b = refl
      or_is false b = refl

-- what a cut at commas gives in a step
abbrev pub Cuts : Split ℕ → Option (Bor (List ℕ)) → Split ℕ → Type 0
Cuts = split_steps FindsChar (λ a b. b ≡ a)

-- what it still gives
abbrev pub Gives : Split ℕ → List (List ℕ) → Type 0
Gives = AlwaysYields Cuts (λ x. x.now)

pub none_ahead : (s : Split ℕ) (ahead : List (List ℕ)) (t : Split ℕ) → Gives s ahead → Cuts s None t → ahead ≡ []
none_ahead s [] t gives step = refl
none_ahead s (y ∷ ahead) t gives step = absurd (gives.0 t step)

pub one_ahead : (s : Split ℕ) (ahead : List (List ℕ)) (x : Bor (List ℕ)) (t : Split ℕ) → Gives s ahead → Cuts s (Some x) t → (others : List (List ℕ)) × (ahead ≡ x.now ∷ others) × Gives t others
one_ahead s [] x t gives step = absurd (gives x t step)
one_ahead s (y ∷ ahead) x t gives step = let first = gives.1 x t step in (ahead, ap (λ (z : List ℕ). z ∷ ahead) (sym first.0), first.1)
