pub mod ArenasOut
