-- The document of a refusal (Kubernetes' `Status`, in this project's profile).
use Rattle.std.specs.Prelude.{ℕ, List, [], ◌∷◌, ◌++◌, codes}
use Rattle.serde_json.specs.Data.{Data, unsigned, number, string, object, member, no_members}
use Rattle.serde_json.specs.Written.{compact_text}

abbrev pub refusal_tree : ℕ → List ℕ → List ℕ → Data
refusal_tree code message reason =
    object (member (codes "apiVersion") (string (codes "v1"))
    (member (codes "code") (number (unsigned code))
    (member (codes "kind") (string (codes "Status"))
    (member (codes "message") (string message)
    (member (codes "metadata") (object no_members)
    (member (codes "reason") (string reason)
    (member (codes "status") (string (codes "Failure")) no_members)))))))

-- the compact text of the document, and one line feed
abbrev pub refusal_text : ℕ → List ℕ → List ℕ → List ℕ
refusal_text code message reason = compact_text (refusal_tree code message reason) ++ 10 ∷ []
