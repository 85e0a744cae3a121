use Rattle.gclq.proofs.session.answer.Goals as goal

pub returns : goal.returns
returns g c =
    let ends = c.run-status.ensures in
    record {
      status = c.run-status.result;
      number = c.exit.ensures;
      completed = c.run-status.new.completed;
      run = record {
        words_are = record { usage_only = ends.usage_only; usage_always = ends.usage_always; untouched = ends.untouched };
        told = record {
          done = ends.done;
          done_with_refusals = ends.done_with_refusals;
          stopped = ends.stopped;
          sure = ends.sure;
          part = ends.part;
          part_within = ends.part_within;
        };
        caused = record {
          took = ends.took;
          read_fault = ends.read_fault;
          write_fault = ends.write_fault;
          file_fault = ends.file_fault;
          too_long = ends.too_long;
          source_calm = ends.source_calm;
          sink_calm = ends.sink_calm;
          files_calm = ends.files_calm;
        };
        complete = record { complete = ends.complete; complete_long = ends.complete_long };
        others = record { unasked = ends.unasked; unsaved = ends.unsaved };
        made = record {
          summed = ends.summed;
          summed_with_refusals = ends.summed_with_refusals;
          part_summed = ends.part_summed;
          complete_made = ends.complete_made;
          untouched_by_made = ends.untouched_by_made;
        };
      };
    }
