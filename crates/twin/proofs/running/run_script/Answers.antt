use Rattle.object_journal.specs.Standing.{chosen}
use Rattle.disk.specs.MemDisk.{mem_held}
use Rattle.plain_machine.specs.declared.machine.Machine.{Machine}
use Rattle.twin.proofs.RunLemmas.{run_of}
use Rattle.twin.proofs.running.run_script.Goals as goal

pub returns : goal.returns
returns c =
    let views = c.in_ok-views.views in
    let made = c.in_ok-views.ensures in
    let script = c.in_ok-script.script in
    let start = c.in_ok-world.ensures in
    let old = c.in_ok-world.world in
    let machine : Machine = record { view = views.view; release = c.last.result; back = views.back.minor } in
    record {
      machine = machine;
      of = record { view = made.view; release = c.last.ensures.value; least = made.back };
      script = script;
      made = c.in_ok-script.ensures;
      run = run_of machine script (mem_held old.disk chosen) old.beside c.serve_whole.new.world.beside c.in_ok-served.served c.sends-sends.result.now
          c.in_ok-bytes.bytes (c.in_ok-served.ensures tt) start.empty start.start start.coming c.events-events.ensures.lawful c.sends-sends.ensures
          (c.all_went.ensures.0 c.if-not-all_went.false) c.in_ok-bytes.ensures;
    }
