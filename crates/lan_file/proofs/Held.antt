-- What follows of the bytes that are held, from what is known of them.
use Rattle.std.specs.Prelude.{Option, Some, None, IsSomeAnd}

-- two facts of the bytes give a third
pub both : {X : Type 0} (o : Option X) (P Q R : X → Type 0) → IsSomeAnd o P → IsSomeAnd o Q → ((x : X) → P x → Q x → R x) → IsSomeAnd o R
both None P Q R p q f = p
both (Some x) P Q R p q f = f x p q

-- one fact of the bytes gives another
pub one : {X : Type 0} (o : Option X) (P R : X → Type 0) → IsSomeAnd o P → ((x : X) → P x → R x) → IsSomeAnd o R
one None P R p f = p
one (Some x) P R p f = f x p
