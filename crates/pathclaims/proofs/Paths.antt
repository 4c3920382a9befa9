-- Each promise of paths, and what holds it. Assumes nothing.
use Rattle.pathdefs.specs.Computing.Paths.{path_words, path_bytes, read_path_output, write_path_output}
use Rattle.claims.proofs.Past.{past}
use Rattle.pathlaws.proofs.Coordinates.{one_number}
use Rattle.pathlaws.proofs.Written.{written_accepted}
use Rattle.pathlaws.proofs.Only.{only_bits}
use Rattle.pathclaims.specs.Paths.{Paths}
use Rattle.pathlaws.proofs.Granted.{read_granted, write_granted}
use Rattle.pathclaims.proofs.Back.{one_outline, reads_back, read_gives, reads_again}
use Rattle.pathclaims.proofs.OnlyPath.{only_path}
use Rattle.pathclaims.proofs.Numbers.{read_asks, write_asks}

pub paths : Paths
unfolding read_path_output write_path_output
paths =
    record {
      read_asks = read_asks;
      write_asks = write_asks;
      read_keeps = λ s. s.output;
      write_keeps = λ s. s.output;
      read_past = λ {path} {out} {out'} {n} s. let g = read_granted s in past n (path_words path) out out' g.long g.room g.left;
      write_past = λ {o} {out} {out'} {n} s. let g = write_granted s in past n (path_bytes o) out out' g.long g.room g.left;
      read_gives = read_gives;
      one_outline = one_outline;
      reads_back = reads_back;
      reads_again = reads_again;
      only_path = only_path;
      one_number = one_number;
      every_number = written_accepted;
      only_bits = only_bits;
    }
