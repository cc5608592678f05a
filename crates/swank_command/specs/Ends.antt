-- How the program ends where the words ask for no session.
use Rattle.command_words.specs.declared.limits.WordsFault.{WordsFault}
use Rattle.command_words.specs.declared.limits.WordsFault.TheVariants as words
use Rattle.swank_session.specs.declared.outcome.Status.{Status}
use Rattle.swank_session.specs.declared.outcome.Status.TheVariants as status

abbrev pub status_of : WordsFault → Status
status_of words.Usage = status.Usage
status_of words.NoMemory = status.NoMemory
