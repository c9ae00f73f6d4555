use Rattle.fix_store.proofs.keeping.append.Goals as goal

pub returns-in-Ok-clause-moves : goal.returns-in-Ok-clause-moves
returns-in-Ok-clause-moves g c =
    let done = c.in-Ok.ensures.moves c.requires.goes_on in
    record {
      kept = done.kept;
      as_read = done.as_read;
      any_moment = done.any_moment;
      now = done.now;
      tells_bytes = done.tells_bytes;
      tells_images = done.tells_images;
      cause = done.cause;
      calls = done.calls;
    }
