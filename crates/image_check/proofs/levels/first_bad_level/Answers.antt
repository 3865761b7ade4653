use Rattle.image_check.proofs.levels.first_bad_level.Goals as goal

pub first_level-requires : goal.first_level-requires
first_level-requires c = (
  c.requires.0,
  c.args.received.now.view,
  c.requires.1,
  c.requires.2,
  c.requires.3,
  c.requires.4,
  record {
    known = c.requires.5;
    bytes = c.in_ok-rows.ensures.bytes;
    first = c.in_ok-rows.ensures.first;
    count = c.in_ok-rows.ensures.count;
  },
)

pub returns : goal.returns
returns c = λ original found w n charged known. c.first_level.ensures original c.args.received.now.view found w n charged (record {
  known = known;
  bytes = c.in_ok-rows.ensures.bytes;
  first = c.in_ok-rows.ensures.first;
  count = c.in_ok-rows.ensures.count;
})
