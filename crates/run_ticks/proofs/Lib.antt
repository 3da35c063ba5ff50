pub mod cases_lemmas
mod RoomLaws
