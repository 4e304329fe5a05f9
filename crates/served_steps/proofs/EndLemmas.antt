-- The same items have the same replies, and leave one state.
use Rattle.std.proofs.Common.{◌≡◌, ℕ, List, [], ◌∷◌, map, Option, Some, None, refl, sym, ◌∙◌, ap, subst}
use Rattle.std.specs.Prelude.{option_and_then}
use Rattle.http_front.proofs.RouteLemmas.{one_route}
use Rattle.http_front.specs.Items.{Item, taken_request, refused}
use Rattle.http_front.specs.Replies.{IsBadReply}
use Rattle.http_front.specs.declared.reply.Reply.{Reply}
use Rattle.object_state.specs.Objects.{AreInKeyOrder}
use Rattle.object_state.specs.State.{State, IsNext}
use Rattle.object_state.specs.declared.object.Change.{Change}
use Rattle.plain_machine.proofs.StepLemmas.{one_step}
use Rattle.plain_machine.specs.declared.machine.Machine.{Machine}
use Rattle.release_view.specs.Views.{Viewed}
use Rattle.request_target.specs.Laws.{AsksForOne}
use Rattle.request_target.specs.Targets.{asked_in}
use Rattle.served_steps.specs.Laws.{HaveOneEnd}
use Rattle.served_steps.specs.Steps.{Exchange, IsAnswered, Steps}

asks_once : (view : Viewed) (path : List ℕ) → AsksForOne view path
asks_once view path = λ a b h k. h.2 ∙ ap (option_and_then (asked_in view)) (one_route path h.0 k.0 h.1 k.1) ∙ sym k.2

one_bad : (a b : Reply) → IsBadReply a → IsBadReply b → a ≡ b
one_bad a b p q =
    let code = p.code ∙ sym q.code in
    let page = p.page ∙ sym q.page in
    let allow = p.allow ∙ sym q.allow in
    let warning = p.warning ∙ sym q.warning in
    let body = p.body ∙ sym q.body in
    let bare = p.bare ∙ sym q.bare in
    let last = p.last ∙ sym q.last in
    λ i. record { code = code i; page = page i; allow = allow i; warning = warning i; body = body i; bare = bare i; last = last i }

-- ---- one step

next_order : (s after : State) (c : Option Change) → AreInKeyOrder s.objects → IsNext s c after → AreInKeyOrder after.objects
next_order s after None order next = subst (λ (z : State). AreInKeyOrder z.objects) (sym next) order
next_order s after (Some change) order next = next.objects.order

pub answered_order : (m : Machine) (s after : State) (item : Item) (reply : Reply) → AreInKeyOrder s.objects → IsAnswered m s item reply after → AreInKeyOrder after.objects
answered_order m s after (taken_request q) reply order h = next_order s after h.change order h.next
answered_order m s after refused reply order h = subst (λ (z : State). AreInKeyOrder z.objects) (sym h.1) order

answered_once : (m : Machine) (s after later : State) (item : Item) (reply other : Reply) → AreInKeyOrder s.objects → IsAnswered m s item reply after → IsAnswered m s item other later → (reply ≡ other) × (after ≡ later)
answered_once m s after later (taken_request q) reply other order h k = one_step s order m q (asks_once m.view q.path) reply other after later h k
answered_once m s after later refused reply other order h k = (one_bad reply other h.0 k.0, h.1 ∙ sym k.1)

-- ---- all steps

abbrev item_of : Exchange → Item
item_of x = x.item

one_exchange : (x y : Exchange) → x.item ≡ y.item → x.reply ≡ y.reply → x ≡ y
one_exchange x y items replies = λ i. record { item = items i; reply = replies i }

one_end : (m : Machine) (s : State) (xs ys : List Exchange) (after later : State) → AreInKeyOrder s.objects → map item_of xs ≡ map item_of ys → Steps m s xs after → Steps m s ys later → (xs ≡ ys) × (after ≡ later)
one_end m s [] [] after later order e h k = (refl, h ∙ sym k)
one_end m s [] (y ∷ ys) after later order e h k = absurd (let clash : [] ≡ y.item ∷ map item_of ys = e in cc)
one_end m s (x ∷ xs) [] after later order e h k = absurd (let clash : x.item ∷ map item_of xs ≡ [] = e in cc)
one_end m s (x ∷ xs) (y ∷ ys) after later order e h k =
    let both : x.item ∷ map item_of xs ≡ y.item ∷ map item_of ys = e in
    let head : x.item ≡ y.item = cc in
    let tail : map item_of xs ≡ map item_of ys = cc in
    let one = answered_once m s h.0 k.0 x.item x.reply y.reply order h.1 (subst (λ (i : Item). IsAnswered m s i y.reply k.0) (sym head) k.1) in
    let rest = one_end m h.0 xs ys after later (answered_order m s h.0 x.item x.reply order h.1) tail h.2 (subst (λ (z : State). Steps m z ys later) (sym one.1) k.2) in
    let first = one_exchange x y head one.0 in
    ((λ i. first i ∷ rest.0 i), rest.1)

pub have_one_end : (m : Machine) (s : State) → AreInKeyOrder s.objects → HaveOneEnd m s
have_one_end m s order = λ xs ys after later e h k. one_end m s xs ys after later order e h k
