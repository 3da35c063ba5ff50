use Rattle.call_records.proofs.record_refusal.record_halt.Goals as goal

pub returns-in-Config : goal.returns-in-Config
returns-in-Config c =
    let told = rw (c.config_spot.ensures, c.as_bytes-words.ensures.value, c.config_words.ensures)
    at c.at_spot.ensures in
    rw (c.in-Config.is) told

pub returns-in-NoChannel : goal.returns-in-NoChannel
returns-in-NoChannel c = rw (c.in-NoChannel.is) c.channel_halt.ensures

pub returns-in-ManyChannels : goal.returns-in-ManyChannels
returns-in-ManyChannels c = rw (c.in-ManyChannels.is) c.channel_halt-in-ManyChannels.ensures
