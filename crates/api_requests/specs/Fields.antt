-- The fields of a server over a store, and what its type keeps.
use Rattle.std.specs.Prelude.{◌≡◌, ◌≤◌}
use Rattle.api_requests.specs.Serving.{Serving, IsServing}
use Rattle.api_requests.specs.declared.service.Service.TheInside.{Inside}

abbrev pub serving : Inside → Serving
serving s = record { machine = s.machine; back = s.back; state = s.state.state; store = s.store }

-- and there is room for one more object where there is for one more record
pub record IsKeptInside (s : Inside) : Type 0 where
  pub serves : IsServing (serving s)
  pub room : 1 ≤ s.store.spare → s.state.spare ≡ 1
