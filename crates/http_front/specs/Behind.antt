-- What a path names whose first segments are known, as it is read segment by segment.
use Rattle.std.specs.Prelude.{◌≡◌, ◌≢◌, ℕ, List, ◌++◌, Option, IfSome, IfNone}
use Rattle.http_front.specs.Paths.{path_of}
use Rattle.http_front.specs.Routes.{RouteName, IsLawful, segments_of}

-- the route of a path that begins with these segments, of which the rest is known
pub record IsRouteBehind
    (before : List (List ℕ)) (rest : List ℕ) (route : Option RouteName) : Type 0 where
  pub some : IfSome route (λ r. IsLawful r
      × ((behind : List (List ℕ)) × (segments_of r ≡ before ++ behind) × (rest ≡ path_of behind)))
  pub none : IfNone route ((r : RouteName) (behind : List (List ℕ)) → IsLawful r
      → segments_of r ≡ before ++ behind → rest ≢ path_of behind)
