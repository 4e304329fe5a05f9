-- Steps one after another.
use Rattle.std.proofs.Common.{List, [], ◌∷◌, ◌++◌, refl, subst}
use Rattle.object_state.specs.State.{State}
use Rattle.plain_machine.specs.declared.machine.Machine.{Machine}
use Rattle.served_steps.specs.Laws.{AreJoined}
use Rattle.served_steps.specs.Steps.{Exchange, Steps}

join : (m : Machine) (s : State) (xs ys : List Exchange) (middle after : State) → Steps m s xs middle → Steps m middle ys after → Steps m s (xs ++ ys) after
join m s [] ys middle after h k = subst (λ (z : State). Steps m z ys after) h k
join m s (x ∷ xs) ys middle after h k = (h.0, h.1, join m h.0 xs ys middle after h.2 k)

part : (m : Machine) (s : State) (xs ys : List Exchange) (after : State) → Steps m s (xs ++ ys) after → (middle : State) × Steps m s xs middle × Steps m middle ys after
part m s [] ys after h = (s, refl, h)
part m s (x ∷ xs) ys after h = let p = part m h.0 xs ys after h.2 in (p.0, (h.0, h.1, p.1), p.2)

pub are_joined : (m : Machine) (s : State) → AreJoined m s
are_joined m s = record {
  joined = λ xs ys middle after h k. join m s xs ys middle after h k;
  parted = λ xs ys after h. part m s xs ys after h;
}
