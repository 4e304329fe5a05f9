-- The methods that may be used on what a request asks for.
use Rattle.std.specs.Prelude.{◌≡◌, ◌⊎◌, ℕ, List, codes, if◌then◌else◌}
use Rattle.http_front.specs.declared.request.Verb.{Verb}
use Rattle.http_front.specs.declared.request.Verb.TheVariants.{Get, Post, Put, Delete}
use Rattle.request_target.specs.declared.target.Methods.{Methods}
use Rattle.request_target.specs.declared.target.Methods.TheVariants.{Read, Collection, Single}
use Rattle.request_target.specs.Targets.{Asked, releases, gates, groups, group, resources, everywhere, inside, object}

-- objects are made where the request says in which namespace, if they have one
abbrev pub methods : Asked → Methods
methods releases = Read
methods gates = Read
methods groups = Read
methods (group name) = Read
methods (resources g v) = Read
methods (everywhere of) = if of.served.namespaced then Read else Collection
methods (inside of namespace) = Collection
methods (object of namespace name) = Single

-- as the `Allow` line tells them
abbrev pub allow_text : Methods → List ℕ
allow_text Read = codes "GET"
allow_text Collection = codes "GET, POST"
allow_text Single = codes "DELETE, GET, PUT"

abbrev pub Allows : Methods → Verb → Type 0
Allows Read verb = verb ≡ Get
Allows Collection verb = (verb ≡ Get) ⊎ (verb ≡ Post)
Allows Single verb = (verb ≡ Delete) ⊎ (verb ≡ Get) ⊎ (verb ≡ Put)
