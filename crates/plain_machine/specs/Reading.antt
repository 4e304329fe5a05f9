-- What is read of the state and of the release.
use Rattle.std.specs.Prelude.{◌≡◌, ℕ, List, Option, Some, IsSome}
use Rattle.discovery.specs.Groups.{group_page as page_of_group}
use Rattle.discovery.specs.Resources.{resource_list_page}
use Rattle.http_front.specs.declared.request.Verb.{Verb}
use Rattle.http_front.specs.declared.request.Verb.TheVariants.{Get}
use Rattle.object_pages.specs.Documents.{IsListOf, listed}
use Rattle.object_state.specs.State.{State}
use Rattle.release_view.specs.Views.{Viewed}
use Rattle.request_target.specs.Targets.{Asked, Resource, releases, gates, groups, group, resources, everywhere, inside, object}
use Rattle.plain_machine.specs.Answers.{document}
use Rattle.plain_machine.specs.declared.answer.Answer.{Answer}
use Rattle.serde_json.specs.Data.{Data}

-- the answer is this page, which is there
abbrev pub IsPage : Option Data → Answer → Type 0
IsPage page answer = (tree : Data) × (page ≡ Some tree) × (answer ≡ document 200 tree)

-- the answer is the list of the objects, of those in the namespace where one is given
abbrev pub IsListAnswer : State → Resource → Option (List ℕ) → Answer → Type 0
IsListAnswer s of namespace answer =
    (tree : Data) × IsListOf of s.revision (listed of namespace s.objects) tree
    × (answer ≡ document 200 tree)

-- a page or a list is read
abbrev pub ReadsPage : Verb → Asked → Type 0
ReadsPage verb releases = verb ≡ Get
ReadsPage verb gates = verb ≡ Get
ReadsPage verb groups = verb ≡ Get
ReadsPage verb (group name) = verb ≡ Get
ReadsPage verb (resources g v) = verb ≡ Get
ReadsPage verb (everywhere of) = verb ≡ Get
ReadsPage verb (inside of namespace) = verb ≡ Get
ReadsPage verb (object of namespace name) = ⊥

-- what is asked for is a page or a list, and is there
abbrev pub HasPage : Viewed → Asked → Type 0
HasPage view (group name) = IsSome (page_of_group view name)
HasPage view (resources g v) = IsSome (resource_list_page view g v)
HasPage view releases = Unit {0}
HasPage view gates = Unit {0}
HasPage view groups = Unit {0}
HasPage view (everywhere of) = Unit {0}
HasPage view (inside of namespace) = Unit {0}
HasPage view (object of namespace name) = ⊥
