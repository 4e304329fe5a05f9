-- The rest of a stream in a buffer: when bytes come, and when a request is taken.
use Rattle.std.proofs.Common.{◌≡◌, ℕ, ◌+◌, ◌≤◌, List, ◌++◌, length, drop, sym, ◌∙◌, ap, subst, arith}
use Rattle.std.proofs.lemmas.List.{length-append, drop-drop, drop-append-le}
use Rattle.std.proofs.Math.Seq.{drop-append_seam}
use Rattle.http_front.specs.Items.{BeginsRequest}
use Rattle.http_front.specs.Waits.{IsKnown, IsNext}
use Rattle.http_front.specs.declared.request.Known.{Known}
use Rattle.http_front.specs.declared.request.Next.{Next}
use Rattle.http_front.specs.declared.request.Next.TheVariants.{Whole}
use Rattle.http_front.specs.declared.request.Request.{Request}
use Rattle.http_front.proofs.ItemLemmas.{request_alone}
use Rattle.http_front.proofs.WaitLemmas.{stays_known}

-- behind the bytes that a request uses stands what it leaves
request_leaves : (stream behind : List ℕ) (request : Request) (used : ℕ) → BeginsRequest stream request behind → used + length behind ≡ length stream → drop used stream ≡ behind
request_leaves stream behind request used h size =
    let alone = request_alone stream request behind h in
    let same : used ≡ length alone.0 = omega (arith, size, ap length alone.1, length-append alone.0 behind) in
    (λ i. drop (same i) (alone.1 i)) ∙ drop-append_seam alone.0 behind

-- the request that is next begins the rest, and leaves what stands behind it
pub whole_next : (bytes rest now : List ℕ) (start used : ℕ) (request : Request) (next : Next) → rest ≡ drop start bytes → drop start bytes ≡ now → next ≡ Whole request used → IsNext rest next → (used ≤ length rest) × BeginsRequest now request (drop (start + used) bytes)
whole_next bytes rest now start used request next e f is h =
    let taken = subst (IsNext rest) is h in
    let behind : drop (start + used) bytes ≡ taken.0 = sym (drop-drop used start bytes) ∙ ap (drop used) (sym e) ∙ request_leaves rest taken.0 request used taken.1 taken.2 in (
      omega (arith, taken.2),
      subst (λ (s : List ℕ). BeginsRequest s request (drop (start + used) bytes)) (e ∙ f) (subst (λ (r : List ℕ). BeginsRequest rest request r) (sym behind) taken.1),
    )

-- what is known of the rest stays so when bytes come
pub known_with : (bytes more after : List ℕ) (start : ℕ) (known : Known) → start ≤ length bytes → after ≡ bytes ++ more → IsKnown (drop start bytes) known → IsKnown (drop start after) known
known_with bytes more after start known within e h =
    subst (λ (s : List ℕ). IsKnown s known) (sym (ap (drop start) e ∙ drop-append-le start bytes more within)) (stays_known (drop start bytes) more known h)
