-- How a `Boxed` holds its value, so that a type may lead back to itself through one.
use mathlib.Core.Path.{refl}
use mathlib.Core.Former.{Former, this, const, pair, via}
use base.Stored.{gnil}
use base.Fml.{ftrue}
use denote.RattleType.{RattleType}
use denote.Memory.{part_of}
use denote.RawPtr.{Ptr}
use denote.Sharing.{nothing}
use denote.HoleLaws.{Alike}
use denote.HolePlaces.{Recodes, struct_places, laid, one_value}
use denote.Hole.Fix.{over}
use denote.Param.Weighed.{Weighed}
use denote.Model.Placed.{view_places}
use Rattle.std.specs.declared.boxed.Box.{Box}
use Rattle.std.specs.contracts.boxed.Box as on_heap
use Rattle.std.specs.declared.alloc.Global.{Global}
use Rattle.std.specs.contracts.alloc.Global as global
use Rattle.std.specs.contracts.impls.GlobalAllocator.TheImpl.{ghosts}
use Rattle.lan_model.specs.declared.boxed.Boxed.TheInside.{Inside}
use Rattle.lan_model.specs.declared.boxed.Boxed.TheView.{view, invariant}
use Rattle.lan_model.specs.contracts.boxed.Boxed as seen
use Rattle.lan_model.specs.contracts.boxed.Boxed.TheInside as stored

-- a `Boxed` is its value
abbrev pub the_former : Former {0} → Former {0}
the_former inner = inner

abbrev pub the_weighed : {inner : Former {0}} → Weighed inner → Weighed (the_former inner)
the_weighed weighed = weighed

-- the struct's one field, a `Box`: where it points to, its allocator and its value
abbrev one_box : Former {0}
one_box = via (pair (const (Ptr × Global)) this) Inside
    (λ X inside. ((inside.inner.ptr, inside.inner.alloc), inside.inner.value))
    (λ X parts. record { inner = record { ptr = parts.0.0; alloc = parts.0.1; value = parts.1 } })
    (λ X inside. refl) (λ X parts. refl)

abbrev holding : {X Y : Type 0} → Box X Global → Y → Box Y Global
holding old value = record { ptr = old.ptr; alloc = old.alloc; value = value }

abbrev box_row : RattleType → RattleType
box_row R = on_heap.the_row R global.the_row ghosts

module _ (R S : RattleType) (h : R.Denot → S.Denot) where
  box_places : Alike R S h → Alike (box_row R) (box_row S) (λ b. holding b (h b.value))
  unfolding part_of
  box_places alike = record {
    mir_same = λ i. (box_row (one_value R (alike.mir_same i) (λ _. ftrue) (λ _ _. nothing) gnil)).mir;
    own_same = λ b i. (box_row (one_value R (alike.mir_same i) (alike.own_same b.value i) (alike.shr_same b.value i) gnil)).own_val (holding b tt);
    shr_same = λ b i. (box_row (one_value R (alike.mir_same i) (alike.own_same b.value i) (alike.shr_same b.value i) gnil)).shr_at (holding b tt);
  }

  pub the_places : Alike R S h → Alike (seen.the_row R) (seen.the_row S) ((the_former this).map R.Denot S.Denot h)
  the_places alike = view_places one_box this view (λ X Y k inside. refl) (λ X inside. refl) R.Denot S.Denot h
      (seen.the_row R).coded (seen.the_row S).coded
      (invariant R.Denot) (invariant S.Denot) (λ inside p q. refl) (λ inside p q. refl) (λ inside e. tt) (λ inside e. tt)
      (over (stored.the_row R)) (over (stored.the_row S))
      (struct_places (stored.the_type R) (stored.the_type S) ((λ b. holding b (h b.value)), tt) _ (λ d. refl) refl
      (laid _ _ _ (box_places alike), tt))

  pub the_codes_placed : Recodes R S h → Recodes (seen.the_row R) (seen.the_row S) ((the_former this).map R.Denot S.Denot h)
  the_codes_placed recodes value = recodes value
