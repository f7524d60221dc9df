use Rattle.std.proofs.Common.{rules, ◌≡◌, refl, sym, ◌∙◌, ap, drop, inl, inr}
use Rattle.std.specs.Prelude.{codes}
use Rattle.lan_bytes.specs.Placed.{Placed}
use Rattle.lan_file.specs.declared.tail.Footer.{Footer}
use Rattle.lan_file.specs.Parts.{footer_in, InOrder}
use Rattle.lan_file.proofs.tables.judge_footer.Goals as goal

pub returns-then-footer-ne2 : goal.returns-then-footer-ne2
returns-then-footer-ne2 c =
    let is = c.of-footer.ensures ∙ ap (λ (p : Placed). footer_in p.bytes) c.new.ensures in
    let mark : drop 36 c.args.tail.now ≡ codes "LANC" = search rules in
    (mark, ap (λ (f : Footer). f.major) (sym is), ap (λ (f : Footer). f.minor) (sym is), λ both. elim c.then-footer-ne2.either [ inl major ↦ major both.0 | inr minor ↦ minor.1 both.1 ], refl)

pub returns-then-not-are_in_order : goal.returns-then-not-are_in_order
returns-then-not-are_in_order c =
    let is = c.of-footer.ensures ∙ ap (λ (p : Placed). footer_in p.bytes) c.new.ensures in
    let mark : drop 36 c.args.tail.now ≡ codes "LANC" = search rules in
    let not_so : InOrder c.args.size c.of-footer.result → ⊥ = λ h. absurd (cc (c.if-not-are_in_order.ensures.1 h)) in
    (mark, ap (λ (f : Footer). f.major) (sym is) ∙ c.if-footer-ne2.false, ap (λ (f : Footer). f.minor) (sym is) ∙ c.if-footer-ne1.false, rw (← is) not_so, refl)

pub returns : goal.returns
returns c =
    let is = c.of-footer.ensures ∙ ap (λ (p : Placed). footer_in p.bytes) c.new.ensures in
    let mark : drop 36 c.args.tail.now ≡ codes "LANC" = search rules in
    let order : InOrder c.args.size c.of-footer.result = search rules in
    record {
      read = is;
      mark = mark;
      major = ap (λ (f : Footer). f.major) (sym is) ∙ c.if-footer-ne2.false;
      minor = ap (λ (f : Footer). f.minor) (sym is) ∙ c.if-footer-ne1.false;
      tables = rw (← is) order;
    }
