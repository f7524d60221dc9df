use Rattle.std.proofs.Common.{◌≡◌, ◌+◌, ◌∙◌, [], ℕ, List, Bool, true, length, refl, sym, arith}
use Rattle.std.specs.Prelude.{◌==◌}
use Rattle.std.proofs.lemmas.Bool.Decides.{nat_tests}
use Rattle.lan_rows.specs.Lines.{cut}
use Rattle.lan_rows.proofs.LineLaws.{no_lines}
use Rattle.lan_rows.proofs.lines.RowLines.next.Goals as goal

-- no line is left where no byte is
none_left : (lines : List (ℕ × List ℕ)) (number : ℕ) (rest : List ℕ) (empty : Bool) → cut number [] rest ≡ lines → empty ≡ (length rest == 0) → empty ≡ true → lines ≡ []
none_left lines number rest empty is tests so =
    let tested : (length rest == 0) ≡ true = sym tests ∙ so in
    sym is ∙ no_lines number rest (grind (arith, nat_tests, tested))

pub returns-then-is_empty-clause-ok : goal.returns-then-is_empty-clause-ok
returns-then-is_empty-clause-ok c = let none = none_left c.args.self.now (c.self.inside.number + 1) c.self.inside.rest.now c.is_empty.result c.self.view_is c.is_empty.ensures c.if-is_empty.true in rw none refl

pub returns-then-is_empty-clause-rest : goal.returns-then-is_empty-clause-rest
returns-then-is_empty-clause-rest c = let none = none_left c.args.self.now (c.self.inside.number + 1) c.self.inside.rest.now c.is_empty.result c.self.view_is c.is_empty.ensures c.if-is_empty.true in rw none refl
