-- What one request means: its reply, and the state after it.
use Rattle.std.specs.Prelude.{◌≡◌, ◌≢◌, ◌⊎◌, ◌+◌, ℕ, List, Option, Some, None}
use Rattle.discovery.specs.Groups.{group_list_page, group_page as page_of_group}
use Rattle.discovery.specs.Metrics.{metrics_page}
use Rattle.discovery.specs.Releases.{releases_page}
use Rattle.discovery.specs.Resources.{resource_list_page}
use Rattle.http_front.specs.declared.reply.Reply.{Reply}
use Rattle.http_front.specs.declared.request.Request.{Request}
use Rattle.http_front.specs.declared.request.Verb.{Verb}
use Rattle.http_front.specs.declared.request.Verb.TheVariants.{Get, Post, Put, Delete, Patch, Head, Other}
use Rattle.object_pages.specs.Documents.{IsListOf, IsShown, deleted_tree, listed}
use Rattle.object_state.specs.Objects.{Holds}
use Rattle.object_state.specs.State.{State, IsNext}
use Rattle.object_state.specs.declared.object.Change.{Change}
use Rattle.object_state.specs.declared.object.Object.{Object}
use Rattle.request_body.specs.Places.{Place, IsAbout, key_at, key_of}
use Rattle.request_body.specs.Writes.{AreGiven}
use Rattle.request_target.specs.Targets.{AsksFor, Asked, releases, gates, groups, group, resources, everywhere, inside, object}
use Rattle.request_target.specs.Warnings.{warning}
use Rattle.plain_machine.specs.Answers.{document, metrics_answer, reply_to}
use Rattle.plain_machine.specs.Refusals.{IsNotRefused, IsRefused}
use Rattle.plain_machine.specs.declared.answer.Answer.{Answer}
use Rattle.plain_machine.specs.declared.machine.Machine.{Machine}
use Rattle.serde_json.specs.Data.{Data}

-- ---- what is read

-- the document of what is asked for
abbrev pub IsDocument : Machine → State → Asked → Data → Type 0
IsDocument m s releases tree = tree ≡ releases_page m.release m.view.minor m.back
IsDocument m s gates tree = ⊥
IsDocument m s groups tree = tree ≡ group_list_page m.view
IsDocument m s (group name) tree = page_of_group m.view name ≡ Some tree
IsDocument m s (resources g v) tree = resource_list_page m.view g v ≡ Some tree
IsDocument m s (everywhere of) tree = IsListOf of s.revision (listed of None s.objects) tree
IsDocument m s (inside of namespace) tree =
    IsListOf of s.revision (listed of (Some namespace) s.objects) tree
IsDocument m s (object of namespace name) tree = (found : Object)
    × Holds s.objects (key_at of namespace name) found
    × IsShown of (key_at of namespace name) found tree

-- GET: the page of the gates' values, or a document
abbrev pub IsRead : Machine → State → Asked → Answer → Type 0
IsRead m s asked answer = ((asked ≡ gates) × (answer ≡ metrics_answer (metrics_page m.view)))
    ⊎ ((tree : Data) × IsDocument m s asked tree × (answer ≡ document 200 tree))

-- ---- what is written

-- the answer shows the object that then stands at the place
abbrev pub Shows : ℕ → Place → List ℕ → Object → Answer → Type 0
Shows code place name made answer = (tree : Data)
    × IsShown place.of (key_of place name) made tree × (answer ≡ document code tree)

-- POST: the object, made at the next revision
abbrev pub IsCreated : State → Request → Place → List ℕ → Answer → Option Change → Type 0
IsCreated s q place name answer change = (made : Object) × AreGiven s q place name made.fields
    × (made.created ≡ s.revision + 1) × (made.revision ≡ s.revision + 1)
    × (change ≡ Some (record { key = key_of place name; object = Some made }))
    × Shows 201 place name made answer

-- PUT with other fields: the object with them, at the next revision
abbrev pub IsUpdated : State → Request → Place → List ℕ → Object → Answer → Option Change → Type 0
IsUpdated s q place name old answer change = (made : Object) × AreGiven s q place name made.fields
    × (made.fields ≢ old.fields) × (made.created ≡ old.created) × (made.revision ≡ s.revision + 1)
    × (change ≡ Some (record { key = key_of place name; object = Some made }))
    × Shows 200 place name made answer

-- PUT with equal fields: the object as it is
abbrev pub IsLeft : State → Request → Place → List ℕ → Object → Answer → Option Change → Type 0
IsLeft s q place name old answer change =
    AreGiven s q place name old.fields × (change ≡ None) × Shows 200 place name old answer

abbrev pub IsReplaced : State → Request → Place → List ℕ → Answer → Option Change → Type 0
IsReplaced s q place name answer change = (old : Object) × Holds s.objects (key_of place name) old
    × (IsUpdated s q place name old answer change ⊎ IsLeft s q place name old answer change)

-- DELETE: the object is gone
abbrev pub IsDeleted : Place → List ℕ → Answer → Option Change → Type 0
IsDeleted place name answer change =
    (change ≡ Some (record { key = key_of place name; object = None }))
    × (answer ≡ document 200 deleted_tree)

abbrev pub IsWritten : State → Request → Verb → Place → List ℕ → Answer → Option Change → Type 0
IsWritten s q Post place name answer change = IsCreated s q place name answer change
IsWritten s q Put place name answer change = IsReplaced s q place name answer change
IsWritten s q Delete place name answer change = IsDeleted place name answer change
IsWritten s q Get place name answer change = ⊥
IsWritten s q Patch place name answer change = ⊥
IsWritten s q Head place name answer change = ⊥
IsWritten s q Other place name answer change = ⊥

-- ---- answers

-- what isn't refused is read, or written
abbrev pub IsGranted : Machine → State → Request → Asked → Answer → Option Change → Type 0
IsGranted m s q asked answer change = ((q.verb ≡ Get) × IsRead m s asked answer × (change ≡ None))
    ⊎ ((place : Place) × (name : List ℕ) × IsAbout q asked place name
    × IsWritten s q q.verb place name answer change)

-- the request is refused, or it is granted; and this is its answer, and its change of the state, if
-- there is one
abbrev pub Decides : Machine → State → Request → Option Asked → Answer → Option Change → Type 0
Decides m s q asked answer change = (IsRefused s q asked answer × (change ≡ None))
    ⊎ (IsNotRefused s q asked × ((a : Asked) × (asked ≡ Some a) × IsGranted m s q a answer change))

-- one request, from a state, has this reply and leaves this state
pub record Step (m : Machine) (s : State) (q : Request)
    (reply : Reply) (after : State) : Type 0 where
  pub asked : Option Asked
  pub asks : AsksFor m.view q.path asked
  pub answer : Answer
  pub change : Option Change
  pub decides : Decides m s q asked answer change
  pub told : reply ≡ reply_to q (warning m.view asked) answer
  pub next : IsNext s change after
