use Rattle.api_requests.proofs.service.Service.finish.Goals as goal

pub store_change-requires-clause-write : goal.store_change-requires-clause-write
store_change-requires-clause-write g c = c.requires.ready.write c.in-Some.write c.in-Some.is
