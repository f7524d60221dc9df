use Rattle.std.proofs.Common.{arith, ◌≡◌, ◌∙◌, ℕ, List, All, length, ◌≤◌, map, take, ap, sym, subst}
use Rattle.std.proofs.lemmas.List.{take_all}
use Rattle.lan_model.specs.declared.tree.Layer.{Layer}
use Rattle.lan_levels.specs.Codes.{layer_code, FitCodes, IsCode}
use Rattle.lan_levels.proofs.LayerCodes.{written_are, written_fit}
use Rattle.lan_levels.proofs.codes.codes_of.Goals as goal

-- the codes of all layers
whole : (codes : List ℕ) (items layers : List Layer) (i : ℕ) → codes ≡ map layer_code (take i items) → length items ≤ i → items ≡ layers → codes ≡ map layer_code layers
whole codes items layers i h le e = h ∙ ap (λ (ls : List Layer). map layer_code ls) (take_all i items le ∙ e)

pub returns-clause-codes : goal.returns-clause-codes
returns-clause-codes c =
    let e = whole c.loop-layer.codes c.as_slice-layer-items.result.now c.args.leaf.now.layers c.loop-layer.layer-index c.loop-layer.invariant (omega arith) c.as_slice-layer-items.ensures in
    subst (All IsCode) (sym e) (written_are c.args.leaf.now.layers)

pub returns-clause-fit : goal.returns-clause-fit
returns-clause-fit c =
    let e = whole c.loop-layer.codes c.as_slice-layer-items.result.now c.args.leaf.now.layers c.loop-layer.layer-index c.loop-layer.invariant (omega arith) c.as_slice-layer-items.ensures in
    subst (λ (codes : List ℕ). FitCodes codes c.args.leaf.now.layers) (sym e) (written_fit c.args.leaf.now.layers)
